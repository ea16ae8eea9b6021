use Rattle.std.proofs.Common.{◌≡◌, ◌+◌, ◌*◌, ◌^◌}
use Rattle.sig_number.specs.Value.{value}
use Rattle.sig_number.proofs.rows.add_carry.Given as goal

abbrev pub invariant-loop-i : goal.invariant-loop-i
invariant-loop-i l = value l.total + (2 ^ 64) ^ l.i * l.carry ≡ value l.fn.total + (2 ^ 64) ^ l.place * l.fn.carry
