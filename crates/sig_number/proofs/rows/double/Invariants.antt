use Rattle.std.proofs.Common.{◌≡◌, ◌+◌, ◌*◌, ◌^◌, take, drop}
use Rattle.std.specs.Int.{from_bool}
use Rattle.sig_number.specs.Value.{value}
use Rattle.sig_number.proofs.rows.double.Given as goal

abbrev pub invariant-loop-i : goal.invariant-loop-i
invariant-loop-i l = record {
  sum : value l.limbs + (2 ^ 64) ^ l.i * from_bool l.carry ≡ value l.fn.limbs + value (take l.i l.fn.limbs);
  rest : drop l.i l.limbs ≡ drop l.i l.fn.limbs;
}
