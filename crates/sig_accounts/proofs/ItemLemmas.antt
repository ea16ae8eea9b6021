-- Items of lists by their places.
use Rattle.std.proofs.Common.{◌≡◌, ◌≢◌, ◌⊎◌, ◌∙◌, ap, sym, ℕ, zero, suc, ◌<◌, ◌≤◌, ◌==◌, List, [], ◌∷◌, ◌++◌, length, take, drop, true, false, Some, None, inl, inr, refl, arith}
use Rattle.std.specs.List.{slice_get}
use Rattle.std.proofs.Math.ListN.{set}
use Rattle.std.proofs.lemmas.Bool.{eqb-true, eqb-false}
use Rattle.std.proofs.lemmas.List.{take-append-drop}
use Rattle.std.proofs.lemmas.Option.{none-some, same_Some}

pub differ : (a b : ℕ) → (a ≡ b) ⊎ (a ≢ b)
differ a b = elim (a == b) as (λ t. (a == b) ≡ t → (a ≡ b) ⊎ (a ≢ b)) [
  | true ↦ λ is. inl (eqb-true a b is)
  | false ↦ λ is. inr (eqb-false a b is)
] refl

-- ---- after a write

pub set_here : {X : Type 0} (xs : List X) (i : ℕ) (x : X) → i < length xs → slice_get (set xs i x) i ≡ Some x
set_here [] i x within = absurd (omega (arith, within))
set_here (y ∷ ys) zero x within = refl
set_here (y ∷ ys) (suc i) x within = set_here ys i x (omega (arith, within))

pub set_there : {X : Type 0} (xs : List X) (i j : ℕ) (x : X) → i ≢ j → slice_get (set xs i x) j ≡ slice_get xs j
set_there [] i j x apart = refl
set_there (y ∷ ys) zero zero x apart = absurd (apart refl)
set_there (y ∷ ys) zero (suc j) x apart = refl
set_there (y ∷ ys) (suc i) zero x apart = refl
set_there (y ∷ ys) (suc i) (suc j) x apart = set_there ys i j x (λ e. apart (ap suc e))

-- ---- in a part of a list

pub take_below : {X : Type 0} (xs : List X) (n i : ℕ) → i < n → slice_get (take n xs) i ≡ slice_get xs i
take_below xs zero i below = absurd (omega (arith, below))
take_below [] (suc n) i below = refl
take_below (x ∷ xs) (suc n) zero below = refl
take_below (x ∷ xs) (suc n) (suc i) below = take_below xs n i (omega (arith, below))

pub take_past : {X : Type 0} (xs : List X) (n i : ℕ) → n ≤ i → slice_get (take n xs) i ≡ None
take_past xs zero i past = refl
take_past [] (suc n) i past = refl
take_past (x ∷ xs) (suc n) zero past = absurd (omega (arith, past))
take_past (x ∷ xs) (suc n) (suc i) past = take_past xs n i (omega (arith, past))

pub end_before : {X : Type 0} (xs ys : List X) (i : ℕ) → i < length xs → slice_get (xs ++ ys) i ≡ slice_get xs i
end_before [] ys i within = absurd (omega (arith, within))
end_before (x ∷ xs) ys zero within = refl
end_before (x ∷ xs) ys (suc i) within = end_before xs ys i (omega (arith, within))

pub end_at : {X : Type 0} (xs : List X) (x : X) → slice_get (xs ++ x ∷ []) (length xs) ≡ Some x
end_at [] x = refl
end_at (y ∷ ys) x = end_at ys x

pub end_past : {X : Type 0} (xs : List X) (x : X) (i : ℕ) → length xs < i → slice_get (xs ++ x ∷ []) i ≡ None
end_past [] x zero past = absurd (omega (arith, past))
end_past [] x (suc i) past = refl
end_past (y ∷ ys) x zero past = absurd (omega (arith, past))
end_past (y ∷ ys) x (suc i) past = end_past ys x i (omega (arith, past))

-- ---- places that are there

-- an item of one list has one in its place in another that is as long
pub beside : {X Y : Type 0} (xs : List X) (ys : List Y) (i : ℕ) (x : X) → length xs ≡ length ys → slice_get xs i ≡ Some x → (y : Y) × (slice_get ys i ≡ Some y)
beside [] ys i x long at = absurd (none-some x at)
beside (x ∷ xs) [] i z long at = absurd (omega (arith, long))
beside (x ∷ xs) (y ∷ ys) zero z long at = (y, refl)
beside (x ∷ xs) (y ∷ ys) (suc i) z long at = beside xs ys i z (omega (arith, long)) at

pub item_at : {X : Type 0} (xs : List X) (i : ℕ) → i < length xs → (x : X) × (slice_get xs i ≡ Some x)
item_at [] i within = absurd (omega (arith, within))
item_at (x ∷ xs) zero within = (x, refl)
item_at (x ∷ xs) (suc i) within = item_at xs i (omega (arith, within))

-- ---- before and after a place

pub dropped : {X : Type 0} (xs : List X) (i : ℕ) (x : X) → slice_get xs i ≡ Some x → drop i xs ≡ x ∷ drop (suc i) xs
dropped [] i x at = absurd (none-some x at)
dropped (y ∷ ys) zero x at = ap (λ z. z ∷ ys) (same_Some y x at)
dropped (y ∷ ys) (suc i) x at = dropped ys i x at

-- what stands before a place, what stands there, and the rest
pub split_at : {X : Type 0} (xs : List X) (i : ℕ) (x : X) → slice_get xs i ≡ Some x → xs ≡ take i xs ++ x ∷ drop (suc i) xs
split_at xs i x at = sym (take-append-drop i xs) ∙ ap (λ l. take i xs ++ l) (dropped xs i x at)

pub taken_more : {X : Type 0} (xs : List X) (i : ℕ) (x : X) → slice_get xs i ≡ Some x → take (suc i) xs ≡ take i xs ++ x ∷ []
taken_more [] i x at = absurd (none-some x at)
taken_more (y ∷ ys) zero x at = ap (λ z. z ∷ []) (same_Some y x at)
taken_more (y ∷ ys) (suc i) x at = ap (λ l. y ∷ l) (taken_more ys i x at)

pub take_set : {X : Type 0} (xs : List X) (n i : ℕ) (x : X) → n ≤ i → take n (set xs i x) ≡ take n xs
take_set xs zero i x past = refl
take_set [] (suc n) i x past = refl
take_set (y ∷ ys) (suc n) zero x past = absurd (omega (arith, past))
take_set (y ∷ ys) (suc n) (suc i) x past = ap (λ l. y ∷ l) (take_set ys n i x (omega (arith, past)))

pub drop_set : {X : Type 0} (xs : List X) (n i : ℕ) (x : X) → i < n → drop n (set xs i x) ≡ drop n xs
drop_set xs zero i x below = absurd (omega (arith, below))
drop_set [] (suc n) i x below = refl
drop_set (y ∷ ys) (suc n) zero x below = refl
drop_set (y ∷ ys) (suc n) (suc i) x below = drop_set ys n i x (omega (arith, below))
