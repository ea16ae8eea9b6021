use Rattle.std.proofs.Common.{◌≡◌, map, take}
use Rattle.sig_accounts.specs.Reported.{refused_at}
use Rattle.sig_accounts.proofs.refusals.same_queues.Given as goal

abbrev pub invariant-loop-i : goal.invariant-loop-i
invariant-loop-i l = map (refused_at l.published) (take l.i l.some.items) ≡ map (refused_at l.published) (take l.i l.others.items)
