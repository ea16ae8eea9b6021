use Rattle.std.proofs.Common.{◌≡◌, ◌≤◌, length, take}
use Rattle.sig_subject.specs.declared.subject.Subject.{Subject}
use Rattle.sig_accounts.specs.Listening.{seats_for}
use Rattle.sig_accounts.proofs.lists.copy_lists.Given as goal

abbrev pub invariant-loop-index : goal.invariant-loop-index
invariant-loop-index l = (l.index ≤ length l.lists.entries) × ((s : Subject) → seats_for s l.copy.entries ≡ seats_for s (take l.index l.lists.entries))
