use Rattle.std.proofs.Common.{◌*◌, ◌^◌, ◌%◌, ◌/◌, length, ap, ◌∙◌, sym, arith}
use Rattle.sig_number.specs.Value.{value_in}
use Rattle.sig_number.proofs.ModLemmas.{product_form, square_power, odd_power, first_power}
use Rattle.sig_number.proofs.power.+raise.Goals as goal

pub returns-then-exponent-eq1-clause-power : goal.returns-then-exponent-eq1-clause-power
returns-then-exponent-eq1-clause-power t c z h =
    let b = 2 ^ 64 in
    let l = length c.args.modulus.now in
    let n = value_in b c.args.modulus.now in
    ap (λ s. value_in b s % n) c.copy_from_slice.ensures.after ∙ h ∙ ap (λ s. (b ^ l * s) % n) (first_power z ∙ ap (λ e. z ^ e) (sym c.if-exponent-eq1.true))

pub returns-then-exponent-eq1-2-clause-power : goal.returns-then-exponent-eq1-2-clause-power
returns-then-exponent-eq1-2-clause-power t c z h =
    let b = 2 ^ 64 in
    let l = length c.args.modulus.now in
    let n = value_in b c.args.modulus.now in
    let e = c.args.exponent in
    let half = c.raise.ensures.power z h in
    let twice = product_form b l n c.args.inverse (value_in b c.raise.new.out) (value_in b c.raise.new.out) (value_in b c.square.new.limbs) (z ^ (e / 2)) (z ^ (e / 2)) c.requires.inverse half half c.square.ensures.product in
    let all = product_form b l n c.args.inverse (value_in b c.square.new.limbs) (value_in b c.args.form.now) (value_in b c.multiply.new.left) (z ^ (e / 2) * z ^ (e / 2)) z c.requires.inverse twice h c.multiply.ensures.product in
    all ∙ ap (λ s. (b ^ l * s) % n) (odd_power z e c.if-exponent-eq1-2.true)

pub returns-else-exponent-eq1-2-clause-power : goal.returns-else-exponent-eq1-2-clause-power
returns-else-exponent-eq1-2-clause-power t c z h =
    let b = 2 ^ 64 in
    let l = length c.args.modulus.now in
    let n = value_in b c.args.modulus.now in
    let e = c.args.exponent in
    let half = c.raise.ensures.power z h in
    let twice = product_form b l n c.args.inverse (value_in b c.raise.new.out) (value_in b c.raise.new.out) (value_in b c.square.new.limbs) (z ^ (e / 2)) (z ^ (e / 2)) c.requires.inverse half half c.square.ensures.product in
    twice ∙ ap (λ s. (b ^ l * s) % n) (square_power z e (omega arith))
