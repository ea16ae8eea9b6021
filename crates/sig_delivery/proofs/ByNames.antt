-- Lists by name are in order, each name once, and under each stands the first.
use Rattle.std.proofs.Common.{◌≡◌, ℕ, List, [], ◌∷◌, Bool, true, false, cond, Option, Some, Ordering, Less, Equal, Greater, nat_cmp, refl, sym, ap, subst, ◌∙◌}
use Rattle.std.specs.Str.{bytes_eq}
use Rattle.std.specs.Cmp.Lexicographic.{slice_cmp}
use Rattle.std.specs.Ordering.{match_ordering}
use Rattle.std.proofs.lemmas.Cmp.{nat_list_cmp_total, tied_itself}
use Rattle.std.proofs.lemmas.Map.Lookups.{exact_bytes}
use Rattle.std.proofs.lemmas.Slice.Eq.{bytes_eq-Decides}
use Rattle.sig_json.proofs.OrderedMembers.{above}
use Rattle.sig_delivery.specs.Asks as asks
use Rattle.sig_delivery.specs.Laws.{AreOrderedErrors, AreOrderedTokens}
use Rattle.sig_delivery.specs.Named.{IsBelowAll, IsByName, by_name, first_named, placed}
use Rattle.sig_delivery.specs.Sets as sets

-- ---- order

below_lower : {T : Type 0} (name : T → List ℕ) (k l : List ℕ) (ys : List T) → slice_cmp nat_cmp k l ≡ Less → IsBelowAll name l ys → IsBelowAll name k ys
below_lower name k l [] lower h = tt
below_lower name k l (y ∷ ys) lower h = (nat_list_cmp_total.trans k l (name y) lower h.0, below_lower name k l ys lower h.1)

below_equal : {T : Type 0} (name : T → List ℕ) (k l : List ℕ) (ys : List T) → slice_cmp nat_cmp k l ≡ Equal → IsBelowAll name l ys → IsBelowAll name k ys
below_equal name k l [] same h = tt
below_equal name k l (y ∷ ys) same h = (nat_list_cmp_total.congr k l (name y) same ∙ h.0, below_equal name k l ys same h.1)

below_placed : {T : Type 0} (name : T → List ℕ) (q : List ℕ) (x : T) (ys : List T) → slice_cmp nat_cmp q (name x) ≡ Less → IsBelowAll name q ys → IsBelowAll name q (placed name x ys)
below_placed name q x [] lower h = (lower, tt)
below_placed name q x (y ∷ ys) lower h = at (slice_cmp nat_cmp (name x) (name y)) (below_placed name q x ys lower h.1)
  where
    at : (o : Ordering) → IsBelowAll name q (placed name x ys) → IsBelowAll name q (match_ordering o (x ∷ y ∷ ys) (x ∷ ys) (y ∷ placed name x ys))
    at Less rest = (lower, h)
    at Equal rest = (lower, h.1)
    at Greater rest = (h.0, rest)

ordered_placed : {T : Type 0} (name : T → List ℕ) (x : T) (ys : List T) → IsByName name ys → IsByName name (placed name x ys)
ordered_placed name x [] h = (tt, tt)
ordered_placed name x (y ∷ ys) h = at (slice_cmp nat_cmp (name x) (name y)) refl (ordered_placed name x ys h.1)
  where
    at : (o : Ordering) → slice_cmp nat_cmp (name x) (name y) ≡ o → IsByName name (placed name x ys) → IsByName name (match_ordering o (x ∷ y ∷ ys) (x ∷ ys) (y ∷ placed name x ys))
    at Less is rest = ((is, below_lower name (name x) (name y) ys is h.0), h)
    at Equal is rest = (below_equal name (name x) (name y) ys is h.0, h.1)
    at Greater is rest = (below_placed name (name y) x ys (above (name x) (name y) is) h.0, rest)

-- what stands by name is in order, each name once
pub is_by_name : {T : Type 0} (name : T → List ℕ) (xs : List T) → IsByName name (by_name name xs)
is_by_name name [] = tt
is_by_name name (x ∷ xs) = ordered_placed name x (by_name name xs) (is_by_name name xs)

-- ---- what stands so already

first_placed : {T : Type 0} (name : T → List ℕ) (x : T) (xs : List T) → IsBelowAll name (name x) xs → placed name x xs ≡ x ∷ xs
first_placed name x [] h = refl
first_placed name x (y ∷ ys) h = rw h.0 refl

-- stays as it is
pub stays : {T : Type 0} (name : T → List ℕ) (xs : List T) → IsByName name xs → by_name name xs ≡ xs
stays name [] h = refl
stays name (x ∷ xs) h = ap (placed name x) (stays name xs h.1) ∙ first_placed name x xs h.0

-- ---- look-ups

-- a test that holds of two names shows that they are one
one_name : (k n m : List ℕ) → bytes_eq k n ≡ true → bytes_eq k m ≡ true → n ≡ m
one_name k n m h j = sym ((bytes_eq-Decides k n).0 h) ∙ (bytes_eq-Decides k m).0 j

swapped : {T : Type 0} (a b : Bool) (x y : T) (rest : Option T) → (a ≡ true → b ≡ true → ⊥) → cond b (Some y) (cond a (Some x) rest) ≡ cond a (Some x) (cond b (Some y) rest)
swapped true true x y rest apart = absurd (apart refl refl)
swapped true false x y rest apart = refl
swapped false true x y rest apart = refl
swapped false false x y rest apart = refl

again : {T : Type 0} (a b : Bool) (x y : T) (rest : Option T) → a ≡ b → cond a (Some x) rest ≡ cond a (Some x) (cond b (Some y) rest)
again true b x y rest same = refl
again false true x y rest same = cc
again false false x y rest same = refl

apart : (o : Ordering) (n m : List ℕ) → slice_cmp nat_cmp n m ≡ o → o ≡ Greater → n ≡ m → ⊥
apart o n m is greater same =
    let tied : slice_cmp nat_cmp n m ≡ Equal = subst (λ (l : List ℕ). slice_cmp nat_cmp n l ≡ Equal) same (tied_itself nat_list_cmp_total n) in
    cc (sym tied ∙ is ∙ greater)

found_placed : {T : Type 0} (name : T → List ℕ) (k : List ℕ) (x : T) (ys : List T) → first_named name k (placed name x ys) ≡ first_named name k (x ∷ ys)
found_placed name k x [] = refl
found_placed name k x (y ∷ ys) = at (slice_cmp nat_cmp (name x) (name y)) refl (found_placed name k x ys)
  where
    at : (o : Ordering) → slice_cmp nat_cmp (name x) (name y) ≡ o → first_named name k (placed name x ys) ≡ first_named name k (x ∷ ys)
        → first_named name k (match_ordering o (x ∷ y ∷ ys) (x ∷ ys) (y ∷ placed name x ys)) ≡ first_named name k (x ∷ y ∷ ys)
    at Less is later = refl
    at Equal is later =
        again (bytes_eq k (name x)) (bytes_eq k (name y)) x y (first_named name k ys) (ap (bytes_eq k) (exact_bytes (name x) (name y) is))
    at Greater is later =
        ap (cond (bytes_eq k (name y)) (Some y)) later
        ∙ swapped (bytes_eq k (name x)) (bytes_eq k (name y)) x y (first_named name k ys) (λ h j. apart Greater (name x) (name y) is refl (one_name k (name x) (name y) h j))

-- under each name stands the first
pub firsts : {T : Type 0} (name : T → List ℕ) (k : List ℕ) (xs : List T) → first_named name k (by_name name xs) ≡ first_named name k xs
firsts name k [] = refl
firsts name k (x ∷ xs) = found_placed name k x (by_name name xs) ∙ ap (cond (bytes_eq k (name x)) (Some x)) (firsts name k xs)

-- ---- the laws

pub ordered_errors : AreOrderedErrors
ordered_errors errors = record {
  ordered = is_by_name asks.jti_of errors;
  firsts = λ jti. firsts asks.jti_of jti errors;
  stay = stays asks.jti_of errors;
}

pub ordered_tokens : AreOrderedTokens
ordered_tokens key tokens = record {
  ordered = is_by_name sets.jti_of (sets.all_signed key tokens);
  firsts = λ jti. firsts sets.jti_of jti (sets.all_signed key tokens);
  stay = stays sets.jti_of (sets.all_signed key tokens);
}
