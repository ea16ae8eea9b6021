use Rattle.std.proofs.Common.{◌≡◌, ℕ, below_more, arith, refl}
use Rattle.std.specs.Prelude.{bit_or, bit_xor}
use Rattle.std.specs.Int.Bits.{xor_add_and, xor_self}
use Rattle.std.proofs.lemmas.Nat.{and_le_l, and_le_r, le_or_l, le_or_r}
use Rattle.sig_jws.proofs.mac.difference.Goals as goal

-- no bit is set before, and none differs
none_of : (bits x y : ℕ) → bit_or bits (bit_xor x y) ≡ 0 → (bits ≡ 0) × (x ≡ y)
none_of bits x y h =
    let sum = xor_add_and x y in
    let left = and_le_l x y in
    let right = and_le_r x y in
    let before = le_or_l bits (bit_xor x y) in
    let more = le_or_r bits (bit_xor x y) in
    (omega arith, omega arith)

all_of : (bits x y : ℕ) → bits ≡ 0 → x ≡ y → bit_or bits (bit_xor x y) ≡ 0
all_of bits x y none same = rw (none, same, xor_self y) refl

pub loop-i-preserved : goal.loop-i-preserved
loop-i-preserved c = (
  λ none. let parts = none_of _ _ _ none in below_more _ _ (c.loop-i.invariant.0 parts.0) parts.1,
  λ same. all_of _ _ _ (c.loop-i.invariant.1 (λ k small. same k (omega arith))) (same c.loop-i.i (omega arith)),
)
