-- Texts cut at the first of a byte.
use Rattle.std.proofs.Common.{◌≡◌, ◌∙◌, ap, sym, ℕ, suc, ◌<◌, ◌≤◌, ◌+◌, List, [], ◌∷◌, ◌++◌, Bool, true, false, refl, inl, inr, arith, true≢false, length, get_or, take, drop}
use Rattle.std.specs.Prelude.{not, nat_lt, cond, ◌==◌, ◌≢◌}
use Rattle.std.specs.List.{list_all, position_or_len, after_first}
use Rattle.std.proofs.lemmas.Bool.{and_parts}
use Rattle.std.proofs.lemmas.Bool.Decides.{eqb_tells}
use Rattle.std.proofs.lemmas.List.Sums.{prefix_len_is}

-- the byte stands nowhere in the text
abbrev pub lacks : ℕ → List ℕ → Bool
lacks c text = list_all (λ b. not (b == c)) text

-- a text that lacks the byte has no first place of it
pub place_none : (c : ℕ) (xs : List ℕ) → lacks c xs ≡ true → position_or_len (λ b. b == c) xs ≡ length xs
place_none c [] h = refl
place_none c (x ∷ xs) h = let p = and_parts (not (x == c)) (lacks c xs) h in rw (p.0, place_none c xs p.1) (omega arith)

-- its first place behind a text that lacks it
pub place_at : (c : ℕ) (xs ys : List ℕ) → lacks c xs ≡ true → position_or_len (λ b. b == c) (xs ++ c ∷ ys) ≡ length xs
place_at c [] ys h = rw (same c) refl
  where
    same : (c : ℕ) → (c == c) ≡ true
    same c = elim (eqb_tells c c) [ inl p ↦ p.0 | inr p ↦ absurd (p.1 refl) ]
place_at c (x ∷ xs) ys h = let p = and_parts (not (x == c)) (lacks c xs) h in rw (p.0, place_at c xs ys p.1) (omega arith)

pub drop_seam : (xs ys : List ℕ) → drop (length xs) (xs ++ ys) ≡ ys
drop_seam [] ys = refl
drop_seam (x ∷ xs) ys = drop_seam xs ys

-- what stands from the first place on begins with the byte
pub from_place : (c : ℕ) (xs : List ℕ) → position_or_len (λ b. b == c) xs < length xs → drop (position_or_len (λ b. b == c) xs) xs ≡ c ∷ after_first (λ b. b == c) xs
from_place c [] h = absurd (omega (arith, h))
from_place c (x ∷ xs) h = at (x == c) refl (λ k. from_place c xs k) h
  where
    at : (t : Bool) → (x == c) ≡ t
        → (position_or_len (λ b. b == c) xs < length xs → drop (position_or_len (λ b. b == c) xs) xs ≡ c ∷ after_first (λ b. b == c) xs)
        → cond (not t) (1 + position_or_len (λ b. b == c) xs) 0 < length (x ∷ xs)
        → drop (cond (not t) (1 + position_or_len (λ b. b == c) xs) 0) (x ∷ xs) ≡ c ∷ drop (cond (not t) (1 + position_or_len (λ b. b == c) xs) 0 + 1) (x ∷ xs)
    at true is later h = elim (eqb_tells x c) [ inl p ↦ ap (λ b. b ∷ xs) p.1 | inr p ↦ absurd (true≢false (sym is ∙ p.0)) ]
    at false is later h =
        let n = position_or_len (λ b. b == c) xs in
        let one : 1 + n ≡ suc n = omega arith in
        let two : 1 + n + 1 ≡ suc (n + 1) = omega arith in
        ap (λ m. drop m (x ∷ xs)) one ∙ later (omega (arith, h)) ∙ ap (λ m. c ∷ drop m (x ∷ xs)) (sym two)

-- the place of a byte that is found
pub found_place : (c : ℕ) (xs : List ℕ) (k : ℕ) → k < length xs → get_or xs k 0 ≡ c → ((i : ℕ) → i < k → get_or xs i 0 ≢ c) → position_or_len (λ b. b == c) xs ≡ k
found_place c xs k low is before = prefix_len_is (λ b. not (b == c)) xs k 0 (omega (arith, low)) (λ i h. other (get_or xs i 0) (before i h)) (λ h. same (get_or xs k 0) is)
  where
    other : (b : ℕ) → b ≢ c → not (b == c) ≡ true
    other b h = elim (eqb_tells b c) [ inl p ↦ absurd (h p.1) | inr p ↦ ap not p.0 ]

    same : (b : ℕ) → b ≡ c → not (b == c) ≡ false
    same b h = elim (eqb_tells b c) [ inl p ↦ ap not p.0 | inr p ↦ absurd (p.1 h) ]

-- a byte that isn't found has no place
pub no_place : (c : ℕ) (xs : List ℕ) → ((i : ℕ) → i < length xs → get_or xs i 0 ≢ c) → position_or_len (λ b. b == c) xs ≡ length xs
no_place c xs none = prefix_len_is (λ b. not (b == c)) xs (length xs) 0 (omega arith) (λ i h. other (get_or xs i 0) (none i h)) (λ h. absurd (omega (arith, h)))
  where
    other : (b : ℕ) → b ≢ c → not (b == c) ≡ true
    other b h = elim (eqb_tells b c) [ inl p ↦ absurd (h p.1) | inr p ↦ ap not p.0 ]

pub drop_all : (xs : List ℕ) → drop (length xs) xs ≡ []
drop_all [] = refl
drop_all (x ∷ xs) = drop_all xs

pub take_all : (xs : List ℕ) → take (length xs) xs ≡ xs
take_all [] = refl
take_all (x ∷ xs) = ap (λ r. x ∷ r) (take_all xs)

-- a place that isn't before the end is the end
pub past_end : (m n : ℕ) → m ≤ n → nat_lt m n ≡ false → m ≡ n
past_end m n low is = grind (arith, low, is)
