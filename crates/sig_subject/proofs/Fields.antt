-- What the checks of members say of them.
use Rattle.std.proofs.Common.{◌≡◌, ◌&&◌, ◌||◌, ℕ, List, [], ◌∷◌, length, drop, Bool, true, false, not, nat_eq, nat_lt, bytes_eq, codes, is_some, unwrap_or, Option, Some, None, refl, sym, ap, ◌∙◌, ◌⊎◌, inl, inr}
use Rattle.std.specs.List.{list_any, starts_with}
use Rattle.std.proofs.lemmas.Bool.{and_parts, ltb-true, lt-ltb}
use Rattle.std.proofs.lemmas.Bool.Decides.{Decides-eqb}
use Rattle.std.proofs.lemmas.Slice.Eq.{starts_is}
use Rattle.serde_json.specs.Data.{Data, null, boolean, number, string, array, object, Members, no_members, member}
use Rattle.sig_json.specs.Json.{text_member}
use Rattle.sig_subject.proofs.Identity.{text_same, text_sound}
use Rattle.sig_subject.specs.Reading.{fills, has_no_other, members_in, other_in, text_in}
use Rattle.sig_subject.specs.Subjects.{HasFormat, HasOnly, HasText, names_of}

none_is_some : {A : Type 0} {a : A} → None ≡ Some a → ⊥
none_is_some k = cc

false_is_true : false ≡ true → ⊥
false_is_true k = cc

-- what has a text member is an object
pub object_with_text : (name text : List ℕ) (v : Data) → text_member name v ≡ Some text → (ms : Members) × (v ≡ object ms)
object_with_text name text null h = absurd (none_is_some h)
object_with_text name text (boolean b) h = absurd (none_is_some h)
object_with_text name text (number n) h = absurd (none_is_some h)
object_with_text name text (string s) h = absurd (none_is_some h)
object_with_text name text (array ds) h = absurd (none_is_some h)
object_with_text name text (object ms) h = (ms, refl)

pub some_text : (o : Option (List ℕ)) → is_some o ≡ true → o ≡ Some (unwrap_or o [])
some_text None h = absurd (false_is_true h)
some_text (Some t) h = refl

-- ---- required texts

pub fills_text : (name prefix : List ℕ) (v : Data) (text : List ℕ) → HasText name prefix v text → fills prefix (text_member name v) ≡ true
fills_text name prefix v text h =
    ap (fills prefix) h.is ∙ both_true _ _ (lt-ltb 0 (length text) h.filled) ((starts_is Decides-eqb text prefix (starts_with nat_eq text prefix) refl).1 h.rest h.begins)
  where
    both_true : (a b : Bool) → a ≡ true → b ≡ true → a && b ≡ true
    both_true a b h k = rw (h, k) refl

pub text_in_is : (name prefix : List ℕ) (v : Data) (text : List ℕ) → HasText name prefix v text → text_in name v ≡ text
text_in_is name prefix v text h = ap (λ o. unwrap_or o []) h.is

pub text_fills : (name prefix : List ℕ) (v : Data) → fills prefix (text_member name v) ≡ true → HasText name prefix v (text_in name v)
text_fills name prefix v h = by_text (text_member name v) refl h
  where
    by_text : (o : Option (List ℕ)) → text_member name v ≡ o → fills prefix o ≡ true → HasText name prefix v (unwrap_or o [])
    by_text None e k = absurd (false_is_true k)
    by_text (Some t) e k =
        let p = and_parts (nat_lt 0 (length t)) (starts_with nat_eq t prefix) k in
        record { is = e; filled = ltb-true 0 (length t) p.0; rest = drop (length prefix) t; begins = (starts_is Decides-eqb t prefix (starts_with nat_eq t prefix) refl).0 p.1 }

-- ---- no other members

either : (a b : Bool) → a || b ≡ true → (a ≡ true) ⊎ (b ≡ true)
either true b e = inl refl
either false b e = inr e

listed_head : (b c : Bool) → b ≡ true → b || c ≡ true
listed_head b c h = rw h refl

listed_tail : (b c : Bool) → c ≡ true → b || c ≡ true
listed_tail true c h = refl
listed_tail false c h = h

abbrev listed : List (List ℕ) → List ℕ → Bool
listed names k = bytes_eq k (codes "format") || list_any (bytes_eq k) names

pub all_named : (names : List (List ℕ)) (ms : Members) → other_in names ms ≡ None → (name : List ℕ) → list_any (bytes_eq name) (names_of ms) ≡ true → list_any (bytes_eq name) (codes "format" ∷ names) ≡ true
all_named names no_members h name k = absurd (false_is_true k)
all_named names (member l d ms) h name k = by_test (listed names l) refl (λ e. all_named names ms e name)
  where
    some_is_none : {a : List ℕ} → Some a ≡ None → ⊥
    some_is_none e = cc

    by_test : (b : Bool) → listed names l ≡ b → (other_in names ms ≡ None → list_any (bytes_eq name) (names_of ms) ≡ true → list_any (bytes_eq name) (codes "format" ∷ names) ≡ true)
        → list_any (bytes_eq name) (codes "format" ∷ names) ≡ true
    by_test false e more = absurd (some_is_none (rw e at h))
    by_test true e more = elim (either (bytes_eq name l) (list_any (bytes_eq name) (names_of ms)) k) [
      | inl same ↦ ap (λ n. list_any (bytes_eq n) (codes "format" ∷ names)) (text_sound name l same) ∙ e
      | inr later ↦ more (rw e at h) later
    ]

pub none_other : (names : List (List ℕ)) (ms : Members) → ((name : List ℕ) → list_any (bytes_eq name) (names_of ms) ≡ true → list_any (bytes_eq name) (codes "format" ∷ names) ≡ true) → other_in names ms ≡ None
none_other names no_members h = refl
none_other names (member l d ms) h =
    let here : listed names l ≡ true = h l (listed_head (bytes_eq l l) (list_any (bytes_eq l) (names_of ms)) (text_same l)) in
    rw here (none_other names ms (λ name k. h name (listed_tail (bytes_eq name l) (list_any (bytes_eq name) (names_of ms)) k)))

pub only_holds : (format : List ℕ) (names : List (List ℕ)) (v : Data) → HasOnly format names v → (has_no_other names v).holds ≡ true
only_holds format names v h = ap (λ o. not (is_some o)) (ap (λ d. other_in names (members_in d)) h.is ∙ none_other names h.members h.only)

pub holds_only : (format : List ℕ) (names : List (List ℕ)) (v : Data) → HasFormat format v → (has_no_other names v).holds ≡ true → HasOnly format names v
holds_only format names v named h =
    let o = object_with_text (codes "format") format v named in
    record { members = o.0; is = o.1; named = named; only = all_named names o.0 (ap (λ d. other_in names (members_in d)) (sym o.1) ∙ no_some (other_in names (members_in v)) h) }
  where
    no_some : (o : Option (List ℕ)) → not (is_some o) ≡ true → o ≡ None
    no_some None e = refl
    no_some (Some a) e = absurd (false_is_true e)
