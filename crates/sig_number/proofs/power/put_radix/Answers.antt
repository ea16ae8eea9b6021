use Rattle.std.proofs.Common.{◌*◌, ◌^◌, ◌%◌, length, set, ap, ◌∙◌, sym, arith}
use Rattle.std.proofs.lemmas.Nat.{pow-add}
use Rattle.sig_number.specs.Value.{value, value_in}
use Rattle.sig_number.proofs.ValueLemmas.{value_one}
use Rattle.sig_number.proofs.ModLemmas.{double_power, mod_small, pow-mul}
use Rattle.sig_number.proofs.power.put_radix.Goals as goal

pub loop-k-init : goal.loop-k-init
loop-k-init c =
    let b = 2 ^ 64 in
    let n = value_in b c.args.modulus.now in
    ap (λ s. value_in b (set s 0 1)) (c.fill.ensures.after (λ y h. h)) ∙ value_one b (length c.args.out.now) (omega arith) ∙ sym (mod_small n 1 c.requires.modulus)

pub loop-k-preserved : goal.loop-k-preserved
loop-k-preserved c =
    c.double_modulo.ensures ∙ double_power (value c.args.modulus.now) c.loop-k._k (value c.loop-k.out) c.loop-k.invariant

pub returns : goal.returns
returns c =
    let l = length c.args.modulus.now in
    c.loop-k.invariant ∙ ap (λ z. z % value c.args.modulus.now)
    (ap (λ z. 2 ^ z) (omega arith) ∙ pow-add 2 (64 * l) (64 * l) ∙ ap (λ z. z * z) (pow-mul 2 64 l))
