use Rattle.std.proofs.Common.{◌≡◌, map, take}
use Rattle.sig_accounts.specs.Owings.{Balance, telling_of}
use Rattle.sig_accounts.proofs.sameness.same_accounts.Given as goal

abbrev pub invariant-loop-i : goal.invariant-loop-i
invariant-loop-i l = map (λ (b : Balance). telling_of l.published b.owing) (take l.i l.some) ≡ map (λ (b : Balance). telling_of l.published b.owing) (take l.i l.others)
