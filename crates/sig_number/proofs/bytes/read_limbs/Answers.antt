use Rattle.std.proofs.Common.{◌≡◌, ◌+◌, ◌-◌, ◌*◌, ◌^◌, arith, length, take, drop, ap, ◌∙◌}
use Rattle.sig_number.specs.Modulus.{number}
use Rattle.sig_number.specs.Value.{value_in}
use Rattle.sig_number.proofs.ValueLemmas.{value_more_set}
use Rattle.sig_number.proofs.ByteLemmas.{bytes_step}
use Rattle.sig_number.proofs.bytes.read_limbs.Goals as goal

pub loop-i-preserved : goal.loop-i-preserved
loop-i-preserved c =
    let b = 2 ^ 64 in
    let i = c.loop-i.i in
    let bytes = c.args.bytes.now in
    let e = c.saturating_sub-end.result in
    let s = c.saturating_sub.result in
    let e_is : e ≡ length bytes - 8 * i = omega arith in
    let s_is : s ≡ e - 8 = omega arith in
    let step = bytes_step bytes i e s e_is s_is in
    let before : value_in b (take i c.loop-i.out) ≡ number (drop e bytes) = c.loop-i.invariant ∙ ap (λ z. number (drop z bytes)) (omega arith) in
    let limb = ap (λ z. b ^ i * z) c.limb_of.ensures in
    let here : number (drop s bytes) ≡ number (drop (length bytes - 8 * (i + 1)) bytes) = ap (λ z. number (drop z bytes)) (omega arith) in
    value_more_set b c.loop-i.out i c.limb_of.result (omega arith) ∙ omega (arith, step, before, limb, here)
