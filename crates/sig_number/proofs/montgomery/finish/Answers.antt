use Rattle.std.proofs.Common.{◌*◌, ◌^◌, ◌%◌, ◌<◌, length, ap, ◌∙◌, sym, subst, arith}
use Rattle.sig_number.specs.Value.{value_in}
use Rattle.sig_number.proofs.ValueLemmas.{fits_below, value_below}
use Rattle.sig_number.proofs.ModLemmas.{window}
use Rattle.sig_number.proofs.montgomery.finish.Goals as goal

pub reduce-requires-clause-below : goal.reduce-requires-clause-below
reduce-requires-clause-below c =
    let b = 2 ^ 64 in
    let l = length c.args.modulus.now in
    let n = value_in b c.args.modulus.now in
    subst (λ z. z < 2 * n) (window b c.args.total.now l l n (omega arith) (omega arith) (λ k. fits_below _ (c.type_inv.total k))
    (value_below b c.args.modulus.now (omega arith) (λ k. fits_below _ (c.type_inv.modulus k))) c.requires.below) c.requires.below

pub returns : goal.returns
returns c =
    let b = 2 ^ 64 in
    let l = length c.args.modulus.now in
    let n = value_in b c.args.modulus.now in
    c.reduce.ensures ∙ ap (λ z. z % n) (sym (window b c.args.total.now l l n (omega arith) (omega arith) (λ k. fits_below _ (c.type_inv.total k))
    (value_below b c.args.modulus.now (omega arith) (λ k. fits_below _ (c.type_inv.modulus k))) c.requires.below))
