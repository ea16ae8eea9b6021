use Rattle.std.proofs.Common.{◌*◌, ◌^◌, ◌%◌, ◌/◌, length, ap, ◌∙◌, sym}
use Rattle.sig_number.specs.Value.{value_in}
use Rattle.sig_number.proofs.ModLemmas.{product_form, odd_power, form_of, plain_of, mod_small}
use Rattle.sig_number.proofs.power.power.Goals as goal

pub returns : goal.returns
returns c =
    let b = 2 ^ 64 in
    let l = length c.args.modulus.now in
    let n = value_in b c.args.modulus.now in
    let z = value_in b c.args.base.now in
    let e = c.args.exponent in
    let copied = ap (value_in b) c.copy_from_slice.ensures.after in
    let form = form_of b l n c.args.inverse z (value_in b c.args.radix.now) (value_in b c.multiply.new.left) c.requires.inverse c.requires.square
    (c.multiply.ensures.product ∙ ap (λ s. s * value_in b c.args.radix.now % n) copied) in
    let half = c.raise.ensures.power z form in
    let twice = product_form b l n c.args.inverse (value_in b c.raise.new.out) (value_in b c.raise.new.out) (value_in b c.square.new.limbs) (z ^ (e / 2)) (z ^ (e / 2)) c.requires.inverse half half c.square.ensures.product in
    let all = plain_of b l n c.args.inverse (value_in b c.square.new.limbs) z (value_in b c.multiply-2.new.left) (z ^ (e / 2) * z ^ (e / 2)) c.requires.inverse twice c.multiply-2.ensures.product in
    sym (mod_small n (value_in b c.multiply-2.new.left) c.multiply-2.ensures.below) ∙ all ∙ ap (λ s. s % n) (odd_power z e c.requires.odd)
