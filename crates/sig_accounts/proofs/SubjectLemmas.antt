-- Subjects that are looked up, added and taken off.
use Rattle.std.proofs.Common.{◌≡◌, ◌≢◌, ◌∙◌, ap, sym, subst, ℕ, suc, ◌+◌, ◌<◌, List, [], ◌∷◌, take, drop, get_or, Bool, true, false, cond, ◌||◌, Option, Some, None, is_some, inl, inr, refl, true≢false, arith}
use Rattle.std.specs.Cmp.{IsEquivalence, decided}
use Rattle.std.specs.List.{list_any, position, slice_get, IsDistinct}
use Rattle.std.specs.Map.{keys_of, lookup, lookup_key, values_of}
use Rattle.std.proofs.Math.ListN.{set}
use Rattle.std.proofs.lemmas.Bool.{cases_lt}
use Rattle.std.proofs.lemmas.List.{length-map}
use Rattle.std.proofs.lemmas.Map.Keys.{apart_from_distinct}
use Rattle.indexmap.proofs.MapLemmas.{absent_before, absent_from_lookup, insert_entry-absent, Found-position}
use Rattle.indexmap.specs.IndexMap.{insert_entry}
use Rattle.std.proofs.lemmas.Option.{get_or_from_slice_get, none-some, same_Some, slice_get_within}
use Rattle.sig_subject.proofs.Equal.{equal_identical}
use Rattle.sig_subject.proofs.Identity.{decides_identity}
use Rattle.sig_subject.specs.Matching.{is_identical}
use Rattle.sig_subject.specs.contracts.subject.SubjectPartialEq.TheImpl as subject_eq
use Rattle.sig_subject.specs.declared.subject.Subject.{Subject}
use Rattle.sig_history.specs.Streams.{list_removed}
use Rattle.sig_accounts.specs.Listing.{AreLinked, listed_in, subject_at}
use Rattle.sig_accounts.proofs.ItemLemmas.{item_at, split_at, taken_more}
use Rattle.sig_accounts.proofs.ListingLemmas.{any_listed, emptied_one, none_passes}

-- the equality by which a map looks subjects up
abbrev pub key_eq : Subject → Subject → Bool
key_eq = (subject_eq.ghosts).eq

pub any_alike : {X : Type 0} (t u : X → Bool) → ((x : X) → t x ≡ u x) → (xs : List X) → list_any t xs ≡ list_any u xs
any_alike t u same [] = refl
any_alike t u same (x ∷ xs) = ap (λ b. b || list_any t xs) (same x) ∙ ap (λ b. u x || b) (any_alike t u same xs)

found_key : {X : Type 0} (t : X → Bool) (es : List (X × ℕ)) → is_some (lookup t es) ≡ list_any t (keys_of es)
found_key t [] = refl
found_key t (e ∷ es) = elim (t e.0) as (λ b. is_some (cond b (Some e.1) (lookup t es)) ≡ b || list_any t (keys_of es)) [
  | true ↦ refl
  | false ↦ found_key t es
]

-- ---- look-ups

pub found_subject : (s : Subject) (es : List (Subject × ℕ)) (order : List (Option ℕ)) → AreLinked (values_of es) order
    → is_some (lookup (key_eq s) es) ≡ list_any (is_identical s) (listed_in (keys_of es) order)
found_subject s es order linked =
    found_key (key_eq s) es ∙ any_alike (key_eq s) (is_identical s) (equal_identical s) (keys_of es) ∙ any_listed (is_identical s) es order linked

pub none_from : {X : Type 0} (o : Option X) → is_some o ≡ false → o ≡ None
none_from None is = refl
none_from (Some x) is = absurd (true≢false is)

pub absent_subject : (s : Subject) (es : List (Subject × ℕ)) (order : List (Option ℕ)) → AreLinked (values_of es) order
    → list_any (is_identical s) (listed_in (keys_of es) order) ≡ false → lookup (key_eq s) es ≡ None
absent_subject s es order linked absent = none_from _ (found_subject s es order linked ∙ absent)

-- ---- taking off

record IsFoundAt {X : Type 0} (t : X → Bool) (xs : List X) (i : ℕ) : Type 0 where
  pub item : X
  pub at : slice_get xs i ≡ Some item
  pub passes : t item ≡ true

key_passes : {X : Type 0} (t : X → Bool) (es : List (X × ℕ)) (x : X) → lookup_key t es ≡ Some x → t x ≡ true
key_passes t [] x is = absurd (none-some x is)
key_passes t (e ∷ es) x is = elim (t e.0) as (λ b. t e.0 ≡ b → cond b (Some e.0) (lookup_key t es) ≡ Some x → t x ≡ true) [
  | true ↦ λ passes here. ap t (sym (same_Some e.0 x here)) ∙ passes
  | false ↦ λ fails later. key_passes t es x later
] refl is

found_at : {X : Type 0} (t : X → Bool) (es : List (X × ℕ)) (i : ℕ) → position t (keys_of es) ≡ Some i → IsFoundAt t (keys_of es) i
found_at {X} t es i found =
    let f = Found-position t es i found in
    let key : (x : X) × (slice_get (keys_of es) i ≡ Some x) = item_at (keys_of es) i (omega (arith, f.within, length-map es (λ (e : X × ℕ). e.0))) in
    record { item = key.0; at = key.1; passes = key_passes t es key.0 (f.key ∙ key.1) }

key_itself : (s : Subject) → key_eq s s ≡ true
key_itself s = equal_identical s s ∙ (decides_identity s s).1 refl

-- no subject has two places among distinct ones
twice : (ks : List Subject) (i j : ℕ) (s : Subject) → IsDistinct key_eq ks → i < j → slice_get ks i ≡ Some s → slice_get ks j ≡ Some s → ⊥
twice ks i j s distinct below one other =
    let apart : key_eq (get_or ks i s) (get_or ks j s) ≡ false = apart_from_distinct key_eq ks i j s distinct below (slice_get_within ks j s other) in
    true≢false (sym (key_itself s) ∙ ap (λ x. key_eq x s) (sym (get_or_from_slice_get ks i s s one))
    ∙ ap (key_eq (get_or ks i s)) (sym (get_or_from_slice_get ks j s s other)) ∙ apart)

pub removed_subject : (s : Subject) (es : List (Subject × ℕ)) (order : List (Option ℕ)) (i p : ℕ) → AreLinked (values_of es) order → IsDistinct key_eq (keys_of es)
    → position (key_eq s) (keys_of es) ≡ Some i → slice_get (values_of es) i ≡ Some p
    → listed_in (keys_of es) (set order p None) ≡ list_removed s (listed_in (keys_of es) order)
removed_subject s es order i p linked distinct found at = emptied_one (subject_at (keys_of es)) None (is_identical s) refl order p passes fails
  where
    has : slice_get order p ≡ Some (Some i)
    has = (linked i p).0 at

    it : IsFoundAt (key_eq s) (keys_of es) i
    it = found_at (key_eq s) es i found

    its : is_identical s it.item ≡ true
    its = sym (equal_identical s it.item) ∙ it.passes

    passes : (y : Option ℕ) (x : Subject) → slice_get order p ≡ Some y → subject_at (keys_of es) y ≡ Some x → is_identical s x ≡ true
    passes y x here is =
        let key : slice_get (keys_of es) i ≡ Some x = ap (subject_at (keys_of es)) (same_Some (Some i) y (sym has ∙ here)) ∙ is in
        ap (is_identical s) (same_Some x it.item (sym key ∙ it.at)) ∙ its

    alone : (j : ℕ) (x : Subject) → i ≢ j → slice_get (keys_of es) j ≡ Some x → is_identical s x ≡ true → ⊥
    alone j x apart is same =
        let this : s ≡ x = (decides_identity s x).0 same in
        let there : slice_get (keys_of es) j ≡ Some s = is ∙ ap Some (sym this) in
        let first : slice_get (keys_of es) i ≡ Some s = it.at ∙ ap Some (sym ((decides_identity s it.item).0 its)) in
        elim (cases_lt i j) [
          | inl below ↦ twice (keys_of es) i j s distinct below first there
          | inr past ↦ twice (keys_of es) j i s distinct (omega (arith, past, apart)) there first
        ]

    fails : (q : ℕ) (y : Option ℕ) (x : Subject) → p ≢ q → slice_get order q ≡ Some y → subject_at (keys_of es) y ≡ Some x → is_identical s x ≡ false
    fails q None x apart here is = absurd (none-some x is)
    fails q (Some j) x apart here is =
        let place : slice_get (values_of es) j ≡ Some q = (linked j q).1 here in
        let other : i ≢ j = λ e. apart (same_Some p q (sym at ∙ ap (slice_get (values_of es)) e ∙ place)) in
        elim (is_identical s x) as (λ b. is_identical s x ≡ b → b ≡ false) [
          | true ↦ λ same. absurd (alone j x other is same)
          | false ↦ λ same. refl
        ] refl

pub removed_none : (s : Subject) (es : List (Subject × ℕ)) (order : List (Option ℕ)) → AreLinked (values_of es) order → is_some (lookup (key_eq s) es) ≡ false
    → list_removed s (listed_in (keys_of es) order) ≡ listed_in (keys_of es) order
removed_none s es order linked absent = none_passes (is_identical s) (listed_in (keys_of es) order) (sym (found_subject s es order linked) ∙ absent)

-- ---- copies

pub key_equiv : IsEquivalence key_eq
key_equiv = decided key_eq (λ a b. (λ h. (decides_identity a b).0 (sym (equal_identical a b) ∙ h), λ e. equal_identical a b ∙ (decides_identity a b).1 e))

-- one more entry is copied
pub copied_more : (es cs ds : List (Subject × ℕ)) (i : ℕ) (s : Subject) (p : ℕ) → IsDistinct key_eq (keys_of es) → slice_get es i ≡ Some (s, p)
    → cs ≡ take i es → ds ≡ insert_entry key_eq cs s p → ds ≡ take (i + 1) es
copied_more es cs ds i s p distinct at so_far is =
    let new : lookup (key_eq s) (take i es) ≡ None =
    absent_before key_equiv (take i es) (drop (suc i) es) (s, p) (subst (λ l. IsDistinct key_eq (keys_of l)) (split_at es i (s, p) at) distinct) in
    let one : i + 1 ≡ suc i = omega arith in
    is ∙ ap (λ l. insert_entry key_eq l s p) so_far
    ∙ insert_entry-absent key_eq s p (take i es) (absent_from_lookup (key_eq s) (take i es) new)
    ∙ sym (taken_more es i (s, p) at) ∙ sym (ap (λ n. take n es) one)
