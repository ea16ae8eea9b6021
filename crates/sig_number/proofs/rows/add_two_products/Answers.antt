use Rattle.std.proofs.Common.{◌+◌, ◌^◌, get_or, set, take, arith}
use Rattle.sig_number.specs.Value.{value_in}
use Rattle.sig_number.proofs.ValueLemmas.{value-set, value_more, rows_step, weight_more, weight_add}
use Rattle.sig_number.proofs.rows.add_two_products.Goals as goal

pub loop-i-preserved : goal.loop-i-preserved
loop-i-preserved c =
    let b = 2 ^ 64 in
    let j = c.loop-i.i in
    let at = c.args.place in
    let t = c.loop-i.total in
    let y = c.args.factor.now in
    let z = c.args.modulus.now in
    let one = c.carrying_mul_add-middle in
    let two = c.carrying_mul_add-low in
    rw (value_more b y j (omega arith), value_more b z j (omega arith), weight_more b at j)
    (rows_step b (b ^ at) (b ^ (at + j)) (b ^ j) (value_in b c.args.total.now) (value_in b (take j y)) (value_in b (take j z)) c.args.limb (get_or y j 0) c.args.multiple (get_or z j 0)
    c.loop-i.first c.loop-i.second (get_or t (at + j) 0) one.result.0 one.result.1 two.result.0 two.result.1 (value_in b t) (value_in b (set t (at + j) two.result.0))
    (weight_add b at j) one.ensures two.ensures c.loop-i.invariant (value-set b t (at + j) two.result.0 (omega arith)))
