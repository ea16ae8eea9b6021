-- Texts that are equal, and filters over lists.
use Rattle.std.proofs.Common.{◌≡◌, ◌∙◌, ap, ℕ, suc, ◌+◌, ◌==◌, List, [], ◌∷◌, map, filter, take, Bool, true, false, not, bytes_eq, if◌then◌else◌, refl, arith}
use Rattle.std.specs.Prelude.{cond}
use Rattle.std.specs.List.{before_first, position_or_len}
use Rattle.sig_history.specs.Streams.{client_in, hyphen}
use Rattle.sig_accounts.specs.Owings.{is_hyphen}
use Rattle.std.specs.Cmp.{partial_equiv_from_equiv}
use Rattle.std.specs.Cmp.Lexicographic.{nat_list_eq_equiv}
use Rattle.std.proofs.lemmas.Slice.Eq.{bytes_eq-Decides}

pub text_itself : (a : List ℕ) → bytes_eq a a ≡ true
text_itself a = (bytes_eq-Decides a a).1 refl

pub turned : (a b : List ℕ) → bytes_eq a b ≡ bytes_eq b a
turned a b = (partial_equiv_from_equiv nat_list_eq_equiv).symm a b

-- what stands before the first hyphen of a stream's name is its client
pub client_before : (name : List ℕ) → before_first is_hyphen name ≡ client_in name
client_before [] = refl
client_before (b ∷ bs) =
    let one : 1 + position_or_len is_hyphen bs ≡ suc (position_or_len is_hyphen bs) = omega arith in
    elim (b == hyphen) as (λ t. take (cond (not t) (1 + position_or_len is_hyphen bs) 0) (b ∷ bs) ≡ (if t then [] else b ∷ client_in bs)) [
      | true ↦ refl
      | false ↦ ap (λ n. take n (b ∷ bs)) one ∙ ap (λ l. b ∷ l) (client_before bs)
    ]

pub filter_all : {X : Type 0} (p : X → Bool) → ((x : X) → p x ≡ true) → (xs : List X) → filter p xs ≡ xs
filter_all p all [] = refl
filter_all p all (x ∷ xs) = ap (λ b. if b then x ∷ filter p xs else filter p xs) (all x) ∙ ap (λ l. x ∷ l) (filter_all p all xs)

pub filter_mapped : {X Y : Type 0} (p : Y → Bool) (f : X → Y) (xs : List X) → filter p (map f xs) ≡ map f (filter (λ x. p (f x)) xs)
filter_mapped p f [] = refl
filter_mapped p f (x ∷ xs) =
    elim (p (f x)) as (λ b. (if b then f x ∷ filter p (map f xs) else filter p (map f xs))
    ≡ map f (if b then x ∷ filter (λ y. p (f y)) xs else filter (λ y. p (f y)) xs)) [
      | true ↦ ap (λ l. f x ∷ l) (filter_mapped p f xs)
      | false ↦ filter_mapped p f xs
    ]

pub filter_alike : {X : Type 0} (p q : X → Bool) → ((x : X) → p x ≡ q x) → (xs : List X) → filter p xs ≡ filter q xs
filter_alike p q same [] = refl
filter_alike p q same (x ∷ xs) =
    ap (λ b. if b then x ∷ filter p xs else filter p xs) (same x) ∙ ap (λ l. if q x then x ∷ l else l) (filter_alike p q same xs)

pub map_alike : {X Y : Type 0} (f g : X → Y) → ((x : X) → f x ≡ g x) → (xs : List X) → map f xs ≡ map g xs
map_alike f g same [] = refl
map_alike f g same (x ∷ xs) = ap (λ y. y ∷ map f xs) (same x) ∙ ap (λ l. g x ∷ l) (map_alike f g same xs)

pub filter_none : {X : Type 0} (p : X → Bool) → ((x : X) → p x ≡ false) → (xs : List X) → filter p xs ≡ []
filter_none p none [] = refl
filter_none p none (x ∷ xs) = ap (λ b. if b then x ∷ filter p xs else filter p xs) (none x) ∙ filter_none p none xs
