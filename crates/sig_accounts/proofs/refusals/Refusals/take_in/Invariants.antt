use Rattle.std.proofs.Common.{◌≡◌, ◌≤◌, length}
use Rattle.sig_accounts.specs.Reported.{with_reported}
use Rattle.sig_accounts.proofs.refusals.Refusals.take_in.Given as goal

abbrev pub invariant-loop-refusal : goal.invariant-loop-refusal
invariant-loop-refusal l =
    (with_reported l.self.reported l.left.items ≡ with_reported l.fn.self.reported l.fn.refusals.items)
    × (length l.left.items ≤ l.self.room)

abbrev pub decreases-loop-refusal : goal.decreases-loop-refusal
decreases-loop-refusal l = length l.left.items
