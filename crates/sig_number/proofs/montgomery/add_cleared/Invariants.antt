use Rattle.std.proofs.Common.{◌≡◌, ◌*◌, ◌^◌, ◌%◌, ◌<◌, take}
use Rattle.sig_number.specs.Value.{value}
use Rattle.sig_number.proofs.montgomery.add_cleared.Given as goal

abbrev pub invariant-loop-i : goal.invariant-loop-i
invariant-loop-i l = record {
  cleared : value l.total % (2 ^ 64) ^ l.i ≡ 0;
  below : value l.total < (2 ^ 64) ^ l.i * (2 * value l.modulus);
  product : value l.total % value l.modulus ≡ (value (take l.i l.left) * value l.right) % value l.modulus;
}
