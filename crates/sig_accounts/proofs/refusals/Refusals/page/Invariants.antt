use Rattle.std.proofs.Common.{◌≡◌, drop, map, take}
use Rattle.sig_accounts.specs.Reported.{refused_at}
use Rattle.sig_accounts.proofs.refusals.Refusals.page.Given as goal

abbrev pub invariant-loop-i : goal.invariant-loop-i
invariant-loop-i l = l.tokens.items ≡ map (refused_at l.published) (take l.i (drop l.start l.self.reported.kept))
