use Rattle.std.proofs.Common.{◌≡◌, ◌*◌, ◌-◌, length, take, drop}
use Rattle.sig_number.specs.Value.{value}
use Rattle.sig_number.specs.Modulus.{number}
use Rattle.sig_number.proofs.bytes.read_limbs.Given as goal

abbrev pub invariant-loop-i : goal.invariant-loop-i
invariant-loop-i l = value (take l.i l.out) ≡ number (drop (length l.bytes - 8 * l.i) l.bytes)
