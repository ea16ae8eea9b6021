use Rattle.std.proofs.Common.{◌≡◌, ◌+◌, ◌*◌, ◌^◌, ◌<◌, length, get_or, take, refl, sym, subst, arith}
use Rattle.std.proofs.Math.Nat.{one-le-pow}
use Rattle.std.proofs.lemmas.Nat.{mod_below}
use Rattle.sig_number.specs.Value.{value_in}
use Rattle.sig_number.proofs.ValueLemmas.{fits_below, value_below, value_more, weight_one}
use Rattle.sig_number.proofs.ModLemmas.{step_below, step_clears, step_same, step_room}
use Rattle.sig_number.proofs.montgomery.add_cleared.Goals as goal

pub add_two_rows-requires-clause-room : goal.add_two_rows-requires-clause-room
add_two_rows-requires-clause-room c =
    let b = 2 ^ 64 in
    let i = c.loop-i.i in
    let x = get_or c.args.left.now i 0 in
    let y = value_in b c.args.right.now in
    let n = value_in b c.args.modulus.now in
    let m = c.clearing_multiple-multiple.result in
    let m_below : m < b = subst (λ z. z < b) (sym c.clearing_multiple-multiple.ensures) (mod_below _ b (omega arith)) in
    let below = step_below b (b ^ i) (value_in b c.loop-i.total) x y m n c.loop-i.invariant.below (fits_below _ (c.type_inv.left i)) c.requires.right_below m_below in
    step_room b i (length c.args.modulus.now) (length c.loop-i.total) n _ (omega arith) c.loop-i-test.true (omega arith)
    (value_below b c.args.modulus.now (omega arith) (λ k. fits_below _ (c.type_inv.modulus k))) (omega (arith, below))

pub loop-i-preserved : goal.loop-i-preserved
loop-i-preserved c =
    let b = 2 ^ 64 in
    let i = c.loop-i.i in
    let x = get_or c.args.left.now i 0 in
    let y = value_in b c.args.right.now in
    let n = value_in b c.args.modulus.now in
    let m = c.clearing_multiple-multiple.result in
    let t = value_in b c.loop-i.total in
    let m_below : m < b = subst (λ z. z < b) (sym c.clearing_multiple-multiple.ensures) (mod_below _ b (omega arith)) in
    let is : value_in b c.add_two_rows.new.total ≡ t + b ^ i * (x * y) + b ^ i * (m * n) = omega (arith, c.add_two_rows.ensures) in
    record {
      cleared = rw (weight_one b i, is)
          (step_clears b (b ^ i) t (t + b ^ i * (x * y)) (x * y) m n c.args.inverse (one-le-pow i b (omega arith)) c.loop-i.invariant.cleared c.requires.inverse refl c.clearing_multiple-multiple.ensures);
      below = rw (weight_one b i, is) (step_below b (b ^ i) t x y m n c.loop-i.invariant.below (fits_below _ (c.type_inv.left i)) c.requires.right_below m_below);
      product = rw (is, value_more b c.args.left.now i (omega arith)) (step_same (b ^ i) t (value_in b (take i c.args.left.now)) x y m n c.loop-i.invariant.product);
    }
