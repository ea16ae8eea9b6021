use Rattle.std.proofs.Common.{◌≡◌, ◌+◌, ◌*◌, ◌^◌, ◌<◌, take}
use Rattle.std.specs.Int.{from_bool}
use Rattle.sig_number.specs.Value.{value}
use Rattle.sig_number.proofs.rows.subtract.Given as goal

abbrev pub invariant-loop-i : goal.invariant-loop-i
invariant-loop-i l = record {
  fits : value (take l.i l.out) < (2 ^ 64) ^ l.i;
  difference : value (take l.i l.out) + value (take l.i l.right) ≡ value (take l.i l.left) + (2 ^ 64) ^ l.i * from_bool l.borrow;
}
