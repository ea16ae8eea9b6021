use Rattle.std.proofs.Common.{◌≡◌, ◌<◌, ℕ, get_or}
use Rattle.std.specs.Prelude.{◌↔◌}
use Rattle.sig_jws.proofs.mac.difference.Given as goal

abbrev pub invariant-loop-i : goal.invariant-loop-i
invariant-loop-i l = (l.bits ≡ 0) ↔ ((k : ℕ) → k < l.i → get_or l.bytes k 0 ≡ get_or l.others k 0)
