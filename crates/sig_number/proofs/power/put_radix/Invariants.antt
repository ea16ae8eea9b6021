use Rattle.std.proofs.Common.{◌≡◌, ◌^◌, ◌%◌}
use Rattle.sig_number.specs.Value.{value}
use Rattle.sig_number.proofs.power.put_radix.Given as goal

abbrev pub invariant-loop-k : goal.invariant-loop-k
invariant-loop-k l = value l.out ≡ 2 ^ l._k % value l.modulus
