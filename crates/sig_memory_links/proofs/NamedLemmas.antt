-- What is found by its name once things were taken off and given back.
use Rattle.std.proofs.Common.{◌≡◌, ◌∙◌, ap, sym, subst, ℕ, zero, suc, ◌+◌, ◌<◌, List, [], ◌∷◌, ◌++◌, length, take, drop, get_or, Bool, true, false, bytes_eq, Option, None, Some, if◌then◌else◌, refl, add-one, arith}
use Rattle.std.proofs.lemmas.Slice.Eq.{bytes_eq-Decides}
use Rattle.sig_memory_links.specs.Named.{but_named, first_named}

-- the first is taken off
pub but_first : {T : Type 0} → (f : T → List ℕ) (name : List ℕ) (xs : List T) (at : ℕ) (x : T) → at < length xs
    → x ≡ get_or xs at x → bytes_eq (f x) name ≡ true → but_named f name (drop at xs) ≡ drop (suc at) xs
but_first f name [] at x lt is named = absurd (omega arith)
but_first f name (y ∷ xs) zero x lt is named =
    rw (subst (λ z. bytes_eq (f z) name ≡ true) is named) refl
but_first f name (y ∷ xs) (suc at) x lt is named = but_first f name xs at x (omega arith) is named

-- what is found has the name
pub found_named : {T : Type 0} → (f : T → List ℕ) (name : List ℕ) (xs : List T) (x : T) → first_named f name xs ≡ Some x → f x ≡ name
found_named f name [] x h = absurd (cc)
found_named f name (y ∷ xs) x h =
    elim (bytes_eq (f y) name) as (λ b. bytes_eq (f y) name ≡ b → (if b then Some y else first_named f name xs) ≡ Some x → f x ≡ name) [
      | true ↦ λ same found. let e : y ≡ x = cc in subst (λ z. f z ≡ name) e ((bytes_eq-Decides (f y) name).0 same)
      | false ↦ λ other found. found_named f name xs x found
    ] refl h

-- another name is found as before
pub others_found : {T : Type 0} → (f : T → List ℕ) (name other : List ℕ) (xs : List T) → (other ≡ name → ⊥)
    → first_named f other (but_named f name xs) ≡ first_named f other xs
others_found f name other [] apart = refl
others_found f name other (x ∷ xs) apart =
    elim (bytes_eq (f x) name) as (λ b. bytes_eq (f x) name ≡ b
    → first_named f other (if b then xs else x ∷ but_named f name xs) ≡ (if bytes_eq (f x) other then Some x else first_named f other xs)) [
      | true ↦ λ same.
          elim (bytes_eq (f x) other) as (λ b. bytes_eq (f x) other ≡ b → first_named f other xs ≡ (if b then Some x else first_named f other xs)) [
            | true ↦ λ too. absurd (apart (sym ((bytes_eq-Decides (f x) other).0 too) ∙ (bytes_eq-Decides (f x) name).0 same))
            | false ↦ λ not. refl
          ] refl
      | false ↦ λ not. ap (λ (o : Option _). if bytes_eq (f x) other then Some x else o) (others_found f name other xs apart)
    ] refl

-- what was found is found as before, with one more at the end
pub stays_found : {T : Type 0} → (f : T → List ℕ) (name : List ℕ) (xs : List T) (y x : T) → first_named f name xs ≡ Some x
    → first_named f name (xs ++ y ∷ []) ≡ Some x
stays_found f name [] y x h = absurd (cc)
stays_found f name (z ∷ xs) y x h =
    elim (bytes_eq (f z) name) as (λ b. (if b then Some z else first_named f name xs) ≡ Some x → (if b then Some z else first_named f name (xs ++ y ∷ [])) ≡ Some x) [
      | true ↦ λ found. found
      | false ↦ λ found. stays_found f name xs y x found
    ] h

-- a text is found by itself, and by no other
pub own_name : (name : List ℕ) → bytes_eq name name ≡ true
own_name name = (bytes_eq-Decides name name).1 refl

pub other_name : (name other : List ℕ) → (other ≡ name → ⊥) → bytes_eq name other ≡ false
other_name name other apart =
    elim (bytes_eq name other) as (λ b. bytes_eq name other ≡ b → b ≡ false) [
      | true ↦ λ same. absurd (apart (sym ((bytes_eq-Decides name other).0 same)))
      | false ↦ λ not. refl
    ] refl
