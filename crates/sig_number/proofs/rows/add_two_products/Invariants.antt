use Rattle.std.proofs.Common.{◌≡◌, ◌+◌, ◌*◌, ◌^◌, take}
use Rattle.sig_number.specs.Value.{value}
use Rattle.sig_number.proofs.rows.add_two_products.Given as goal

abbrev pub invariant-loop-i : goal.invariant-loop-i
invariant-loop-i l = value l.total + (2 ^ 64) ^ (l.place + l.i) * (l.first + l.second)
    ≡ value l.fn.total + (2 ^ 64) ^ l.place * (l.limb * value (take l.i l.factor) + l.multiple * value (take l.i l.modulus))
