use Rattle.std.proofs.Common.{◌≡◌, take}
use Rattle.sig_accounts.proofs.refusals.copy_queue.Given as goal

abbrev pub invariant-loop-i : goal.invariant-loop-i
invariant-loop-i l = l.copies.items ≡ take l.i l.list.items
