use Rattle.std.proofs.Common.{◌≡◌, ◌+◌, ◌*◌, ◌^◌, length, get_or, set, arith, subst}
use Rattle.sig_number.specs.Value.{value_in}
use Rattle.sig_number.proofs.ValueLemmas.{value-set, carry_step, weight_one, no_carry}
use Rattle.sig_number.proofs.rows.add_carry.Goals as goal

pub loop-i-preserved : goal.loop-i-preserved
loop-i-preserved c =
    let b = 2 ^ 64 in
    let j = c.loop-i.i in
    let t = c.loop-i.total in
    let r = c.carrying_add-low.result in
    rw (weight_one b j)
    (carry_step b (b ^ j) c.loop-i.carry (get_or t j 0) r.0 _ (value_in b t) (value_in b (set t j r.0)) _
    (omega (arith, c.carrying_add-low.ensures)) c.loop-i.invariant (value-set b t j r.0 (omega arith)))

pub returns : goal.returns
returns c =
    let b = 2 ^ 64 in
    let last : c.loop-i.i ≡ length c.args.total.now = omega arith in
    let i = subst (λ z. value_in b c.loop-i.total + b ^ z * c.loop-i.carry ≡ value_in b c.args.total.now + b ^ c.args.place * c.args.carry) last c.loop-i.invariant in
    no_carry (b ^ length c.args.total.now) c.loop-i.carry _ _ i c.requires.room
