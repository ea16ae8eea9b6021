-- What a list contains, element by element, and what is found in one.
use Rattle.std.proofs.Common.{◌≡◌, ◌∙◌, ap, sym, subst, ℕ, suc, zero, ◌<◌, List, [], ◌∷◌, ◌++◌, length, get_or, filter, Bool, true, false, Some, if◌then◌else◌, refl, inl, inr, arith}
use Rattle.std.specs.Prelude.{◌⊎◌, Contains, find}

pub none_there : {X : Type 0} (x : X) → Contains [] x → ⊥
none_there x h = let low : h.0 < 0 = h.1 in omega arith

pub first_there : {X : Type 0} (x : X) (xs : List X) → Contains (x ∷ xs) x
first_there x xs = (0, omega arith, refl)

pub later_there : {X : Type 0} (y x : X) (xs : List X) → Contains xs x → Contains (y ∷ xs) x
later_there y x xs h = let low : h.0 < length xs = h.1 in (suc h.0, omega arith, h.2)

at_place : {X : Type 0} (y x : X) (xs : List X) (k : ℕ) → k < length (y ∷ xs) → get_or (y ∷ xs) k x ≡ x → (y ≡ x) ⊎ Contains xs x
at_place y x xs zero low e = inl e
at_place y x xs (suc k) low e = inr (k, omega arith, e)

pub there_cases : {X : Type 0} (y x : X) (xs : List X) → Contains (y ∷ xs) x → (y ≡ x) ⊎ Contains xs x
there_cases y x xs h = at_place y x xs h.0 h.1 h.2

pub same_there : {X : Type 0} (y x : X) (xs : List X) → y ≡ x → Contains (y ∷ xs) x
same_there y x xs same = subst (λ z. Contains (y ∷ xs) z) same (first_there y xs)

-- ---- what a test keeps

pub kept_there : {X : Type 0} (p : X → Bool) (xs : List X) (x : X) → Contains xs x → p x ≡ true → Contains (filter p xs) x
kept_there p [] x h passes = absurd (none_there x h)
kept_there p (y ∷ ys) x h passes = elim (there_cases y x ys h) [
  | inl same ↦ subst (λ b. Contains (if b then y ∷ filter p ys else filter p ys) x) (sym (ap p same ∙ passes)) (same_there y x (filter p ys) same)
  | inr later ↦ elim (p y) as (λ b. Contains (if b then y ∷ filter p ys else filter p ys) x) [
    | true ↦ later_there y x (filter p ys) (kept_there p ys x later passes)
    | false ↦ kept_there p ys x later passes
  ]
]

pub there_before : {X : Type 0} (p : X → Bool) (xs : List X) (x : X) → Contains (filter p xs) x → Contains xs x
there_before p [] x h = h
there_before p (y ∷ ys) x h = elim (p y) as (λ b. Contains (if b then y ∷ filter p ys else filter p ys) x → Contains (y ∷ ys) x) [
  | true ↦ λ both. elim (there_cases y x (filter p ys) both) [
    | inl same ↦ same_there y x ys same
    | inr later ↦ later_there y x ys (there_before p ys x later)
  ]
  | false ↦ λ later. later_there y x ys (there_before p ys x later)
] h

-- ---- what is found

-- an element that is found is there, and passes
pub found_passes : {X : Type 0} (p : X → Bool) (xs : List X) (x : X) → find p xs ≡ Some x → Contains xs x × (p x ≡ true)
found_passes p [] x is = cc is
found_passes p (y ∷ ys) x is = elim (p y) as (λ b. p y ≡ b → (if b then Some y else find p ys) ≡ Some x → Contains (y ∷ ys) x × (p x ≡ true)) [
  | true ↦ λ passes this. let same : y ≡ x = cc in (same_there y x ys same, ap p (sym same) ∙ passes)
  | false ↦ λ fails later. let rest = found_passes p ys x later in (later_there y x ys rest.0, rest.1)
] refl is

-- where an element passes, one is found, and it is found of a longer list too
pub one_found : {X : Type 0} (p : X → Bool) (xs ys : List X) (x : X) → Contains xs x → p x ≡ true
    → (y : X) × (find p xs ≡ Some y) × (find p (xs ++ ys) ≡ Some y)
one_found p [] ys x h passes = absurd (none_there x h)
one_found {X} p (z ∷ xs) ys x h passes = elim (there_cases z x xs h) [
  | inl same ↦ let this : p z ≡ true = ap p same ∙ passes in
      (z, ap (λ b. if b then Some z else find p xs) this, ap (λ b. if b then Some z else find p (xs ++ ys)) this)
  | inr later ↦ let (y, is, more) = one_found p xs ys x later passes in
      elim (p z) as (λ b. (y : X) × ((if b then Some z else find p xs) ≡ Some y) × ((if b then Some z else find p (xs ++ ys)) ≡ Some y)) [
        | true ↦ (z, refl, refl)
        | false ↦ (y, is, more)
      ]
]
