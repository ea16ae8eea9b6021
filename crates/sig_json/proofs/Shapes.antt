-- What a field of an event is, of a member of its payload, in the words of the relation and in those of the reading.
use Rattle.std.proofs.Common.{◌≡◌, ℕ, List, [], ◌∷◌, ◌++◌, map, true, false, cond, Option, Some, None, is_some, option_map, unwrap_or, refl, sym, ap, subst, ◌∙◌}
use Rattle.std.specs.Prelude.{ℤ, ⊤}
use Rattle.std.specs.Str.{bytes_eq}
use Rattle.std.proofs.lemmas.Slice.Eq.{bytes_eq-Decides}
use Rattle.serde_json.specs.Data.{Data, null}
use Rattle.serde_json.specs.Find.{as_str}
use Rattle.serde_json.specs.Written.{compact_text}
use Rattle.sig_json.specs.Checks.{Check, check, first_failing, or_else}
use Rattle.sig_json.specs.Json.{member_of}
use Rattle.sig_json.specs.Listed.{listed, listed_in}
use Rattle.sig_json.specs.Members as members
use Rattle.sig_json.specs.Members.{Kind, AnyText, OneOf, Whole, TextOrObject, FilledObject, TextOrTexts, Rule, required, optional, Kept, Words, Number, Canonical, Has, AllHave, text_in, whole_in, value_of, value_checks, member_checks, payload_checks, kept_by, kept}
use Rattle.sig_json.specs.declared.members.PayloadFault.TheVariants as fault
use Rattle.sig_json.proofs.CheckLemmas.{first_failing-append}
use Rattle.sig_json.proofs.MemberLemmas.{any_is_listed}
use Rattle.sig_json.proofs.ReadsMember.{checked, Has-passes, passes-Has}

-- a kind of member, the field's value by a JSON value, and what is kept of the field
pub record Shape (T : Type 0) : Type 0 where
  pub kind : Kind
  pub value : Data → T
  pub keeps : T → Kept
  pub back : (d : Data) (x : T) → keeps x ≡ kept_by kind d → value d ≡ x
  pub same : (d : Data) → first_failing (value_checks [] kind d) ≡ None → keeps (value d) ≡ kept_by kind d

pub text_back : (d : Data) (x : List ℕ) → Words x ≡ kept_by AnyText d → text_in d ≡ x
unfolding text_in
text_back d x h = cc

pub text_same : (d : Data) → Words (text_in d) ≡ kept_by AnyText d
unfolding text_in
text_same d = refl

abbrev pub text_shape : Shape (List ℕ)
text_shape = record { kind = AnyText; value = text_in; keeps = λ t. Words t; back = text_back; same = λ d h. text_same d }

pub whole_back : (d : Data) (x : ℤ) → Number x ≡ kept_by Whole d → whole_in d ≡ x
unfolding whole_in
whole_back d x h = cc

pub whole_same : (d : Data) → Number (whole_in d) ≡ kept_by Whole d
unfolding whole_in
whole_same d = refl

abbrev pub whole_shape : Shape ℤ
whole_shape = record { kind = Whole; value = whole_in; keeps = λ z. Number z; back = whole_back; same = λ d h. whole_same d }

pub canonical_back : (d : Data) (x : List ℕ) → Canonical x ≡ Canonical (compact_text d) → compact_text d ≡ x
canonical_back d x h = cc

abbrev pub text_or_object_shape : Shape (List ℕ)
text_or_object_shape = record { kind = TextOrObject; value = λ d. compact_text d; keeps = λ t. Canonical t; back = canonical_back; same = λ d h. refl }

abbrev pub filled_object_shape : Shape (List ℕ)
filled_object_shape = record { kind = FilledObject; value = λ d. compact_text d; keeps = λ t. Canonical t; back = canonical_back; same = λ d h. refl }

abbrev pub text_or_texts_shape : Shape (List ℕ)
text_or_texts_shape = record { kind = TextOrTexts; value = λ d. compact_text d; keeps = λ t. Canonical t; back = canonical_back; same = λ d h. refl }

-- ---- a closed list, in which each value's text stands for that value

words_same : (s t : List ℕ) → Words s ≡ Words t → t ≡ s
words_same s t h = cc

-- what stands for a text has that text
pub listed-text : {T : Type 0} (text_of : T → List ℕ) (values : List T) (t : List ℕ) (x : T) → listed text_of values t ≡ Some x → text_of x ≡ t
unfolding listed
listed-text text_of [] t x h = cc
listed-text {T = T} text_of (y ∷ ys) t x h =
    elim (bytes_eq t (text_of y)) as (λ b. bytes_eq t (text_of y) ≡ b → cond b (Some y) (listed text_of ys t) ≡ Some x → text_of x ≡ t) [
      | true ↦ λ same is. (let e : y ≡ x = cc in subst (λ (z : T). text_of z ≡ t) e (sym ((bytes_eq-Decides t (text_of y)).0 same)))
      | false ↦ λ _ is. listed-text text_of ys t x is
    ] refl h

pub listed_back : {T : Type 0} (text_of : T → List ℕ) (values : List T) (otherwise : T) → ((x : T) → listed text_of values (text_of x) ≡ Some x) → (d : Data) (x : T) → Words (text_of x) ≡ kept_by (OneOf (map text_of values)) d → listed_in text_of values otherwise d ≡ x
unfolding listed_in
listed_back text_of values otherwise law d x h =
    ap (λ t. unwrap_or (listed text_of values t) otherwise) (words_same (text_of x) (unwrap_or (as_str d) []) h) ∙ ap (λ o. unwrap_or o otherwise) (law x)

found_text : {T : Type 0} (text_of : T → List ℕ) (values : List T) (otherwise : T) (t : List ℕ) (o : Option T) → listed text_of values t ≡ o → is_some o ≡ true → text_of (unwrap_or o otherwise) ≡ t
found_text text_of values otherwise t None is h = cc
found_text text_of values otherwise t (Some x) is h = listed-text text_of values t x is

pub listed_same : {T : Type 0} (text_of : T → List ℕ) (values : List T) (otherwise : T) (d : Data) → first_failing (value_checks [] (OneOf (map text_of values)) d) ≡ None → Words (text_of (listed_in text_of values otherwise d)) ≡ kept_by (OneOf (map text_of values)) d
unfolding listed_in
listed_same text_of values otherwise d h =
    let t = unwrap_or (as_str d) [] in
    let there = sym (any_is_listed text_of values t) ∙ (checked [] (OneOf (map text_of values)) d h).1 in
    ap (λ t. Words t) (found_text text_of values otherwise t (listed text_of values t) refl there)

abbrev pub listed_shape : {T : Type 0} (text_of : T → List ℕ) (values : List T) (otherwise : T) → ((x : T) → listed text_of values (text_of x) ≡ Some x) → Shape T
listed_shape text_of values otherwise law = record {
  kind = OneOf (map text_of values);
  value = listed_in text_of values otherwise;
  keeps = λ x. Words (text_of x);
  back = listed_back text_of values otherwise law;
  same = listed_same text_of values otherwise;
}

-- ---- a member

-- the checks of a value fail alike under every name
same_checks : (a b : List ℕ) (kind : Kind) (d : Data) → first_failing (value_checks a kind d) ≡ None → first_failing (value_checks b kind d) ≡ None
same_checks a b kind d h = let all = checked a kind d h in rw (all.0, all.1, all.2) refl

-- a required member's value
pub required_value : {T : Type 0} (S : Shape T) (name : List ℕ) (v : Data) (x : T) → Has v (required name S.kind) (Some (S.keeps x)) → S.value (value_of name v) ≡ x
unfolding value_of
required_value S name v x h = at (member_of name v) (Has-passes v (required name S.kind) (Some (S.keeps x)) h).1
  where
    at : (m : Option Data) → Some (S.keeps x) ≡ option_map (kept_by S.kind) m → S.value (unwrap_or m null) ≡ x
    at None e = cc
    at (Some d) e = S.back d x cc

-- an optional member's value
pub optional_value : {T : Type 0} (S : Shape T) (name : List ℕ) (v : Data) (x : Option T) → Has v (optional name S.kind) (option_map S.keeps x) → option_map S.value (member_of name v) ≡ x
optional_value S name v x h = at (member_of name v) x (Has-passes v (optional name S.kind) (option_map S.keeps x) h).1
  where
    at : (m : Option Data) (x : Option _) → option_map S.keeps x ≡ option_map (kept_by S.kind) m → option_map S.value m ≡ x
    at None None e = refl
    at None (Some y) e = cc
    at (Some d) None e = cc
    at (Some d) (Some y) e = ap Some (S.back d y cc)

-- a required member whose checks hold is there
pub required_has : {T : Type 0} (S : Shape T) (name : List ℕ) (v : Data) → first_failing (member_checks v (required name S.kind)) ≡ None → Has v (required name S.kind) (Some (S.keeps (S.value (value_of name v))))
unfolding value_of member_checks
required_has S name v h =
    subst (λ (k : Option Kept). Has v (required name S.kind) k) (at (member_of name v) h) (passes-Has v (required name S.kind) h)
  where
    at : (m : Option Data) → first_failing (check (fault.Missing name) (is_some m) ∷ members.checks_where_present name S.kind m) ≡ None → option_map (kept_by S.kind) m ≡ Some (S.keeps (S.value (unwrap_or m null)))
    at None e = cc
    at (Some d) e = ap Some (sym (S.same d (same_checks name [] S.kind d e)))

-- an optional member whose checks hold is there, or is missing
pub optional_has : {T : Type 0} (S : Shape T) (name : List ℕ) (v : Data) → first_failing (member_checks v (optional name S.kind)) ≡ None → Has v (optional name S.kind) (option_map S.keeps (option_map S.value (member_of name v)))
unfolding member_checks
optional_has S name v h =
    subst (λ (k : Option Kept). Has v (optional name S.kind) k) (at (member_of name v) h) (passes-Has v (optional name S.kind) h)
  where
    at : (m : Option Data) → first_failing (members.checks_where_present name S.kind m) ≡ None → option_map (kept_by S.kind) m ≡ option_map S.keeps (option_map S.value m)
    at None e = refl
    at (Some d) e = ap Some (sym (S.same d (same_checks name [] S.kind d e)))

-- ---- lists of members

-- of joined checks none fails exactly where none of either part does
pub both_pass : {F : Type 0} (cs ds : List (Check F)) → first_failing (cs ++ ds) ≡ None → (first_failing cs ≡ None) × (first_failing ds ≡ None)
both_pass {F = F} cs ds h = at (first_failing cs) (sym (first_failing-append cs ds) ∙ h)
  where
    at : (o : Option F) → or_else o (first_failing ds) ≡ None → (o ≡ None) × (first_failing ds ≡ None)
    at None e = (refl, e)
    at (Some f) e = cc

pub pass_both : {F : Type 0} (cs ds : List (Check F)) → first_failing cs ≡ None → first_failing ds ≡ None → first_failing (cs ++ ds) ≡ None
pass_both cs ds h g = first_failing-append cs ds ∙ ap (λ o. or_else o (first_failing ds)) h ∙ g

-- where all members are there no check fails
pub AllHave-passes : (v : Data) (rs : List Rule) (ks : List (Option Kept)) → AllHave v rs ks → first_failing (payload_checks rs v) ≡ None
AllHave-passes v [] [] h = refl
AllHave-passes v [] (k ∷ ks) h = absurd h
AllHave-passes v (r ∷ rs) [] h = absurd h
AllHave-passes v (r ∷ rs) (k ∷ ks) h = pass_both (member_checks v r) (payload_checks rs v) (Has-passes v r k h.0).0 (AllHave-passes v rs ks h.1)

-- no check of a member fails, member by member
abbrev pub EachPasses : Data → List Rule → Type 0
EachPasses v [] = ⊤
EachPasses v (r ∷ rs) = (first_failing (member_checks v r) ≡ None) × EachPasses v rs

pub each_passes : (v : Data) (rs : List Rule) → first_failing (payload_checks rs v) ≡ None → EachPasses v rs
each_passes v [] h = tt
each_passes v (r ∷ rs) h = let both = both_pass (member_checks v r) (payload_checks rs v) h in (both.0, each_passes v rs both.1)
