-- A member is there exactly where no check of it fails.
use Rattle.std.proofs.Common.{◌≡◌, ◌⊎◌, ◌||◌, ℕ, List, [], ◌∷◌, Bool, true, false, not, if◌then◌else◌, Option, Some, None, is_some, option_map, option_and_then, unwrap_or, refl, sym, ap, subst, ◌∙◌, inl, inr}
use Rattle.std.specs.Prelude.{ℤ, pos}
use Rattle.std.proofs.lemmas.Slice.Eq.{bytes_eq-Decides}
use Rattle.std.proofs.lemmas.Cmp.{nat_list_eq_equiv}
use Rattle.std.proofs.lemmas.Map.Views.{list_any-from_Contains, Contains-from_any}
use Rattle.serde_json.specs.Data.{Data, null, boolean, number, string, array, object, Items, no_items, item, no_members, member, unsigned, negative, float}
use Rattle.serde_json.specs.Find.{as_str, as_number, as_integer, as_array, as_object}
use Rattle.sig_json.specs.Checks.{Check, check, first_failing}
use Rattle.sig_json.specs.Json.{member_of}
use Rattle.sig_json.specs.Members.{Kind, AnyText, OneOf, Whole, TextOrObject, FilledObject, TextOrTexts, Rule, Kept, Number, IsText, IsObject, IsFilledObject, AreTexts, IsTexts, Keeps, Has, is_text, is_object, has_members, are_texts, and_test, is_of_kind, is_listed, has_fraction, value_checks, checks_where_present, member_checks, kept_by, kept, ReadsMember}
use Rattle.sig_json.specs.declared.members.PayloadFault.{PayloadFault}
use Rattle.sig_json.specs.declared.members.PayloadFault.TheVariants as fault

-- ---- the kinds

is_text-IsText : (d : Data) → IsText d → is_text d ≡ true
is_text-IsText d h = rw h.1 refl

IsText-is_text : (d : Data) → is_text d ≡ true → d ≡ string (unwrap_or (as_str d) [])
IsText-is_text null h = cc
IsText-is_text (boolean b) h = cc
IsText-is_text (number n) h = cc
IsText-is_text (string s) h = refl
IsText-is_text (array ds) h = cc
IsText-is_text (object ms) h = cc

pub IsObject-is_object : (d : Data) → is_object d ≡ true → IsObject d
IsObject-is_object null h = cc
IsObject-is_object (boolean b) h = cc
IsObject-is_object (number n) h = cc
IsObject-is_object (string s) h = cc
IsObject-is_object (array ds) h = cc
IsObject-is_object (object ms) h = (ms, refl)

IsFilledObject-test : (d : Data) → and_test has_members (as_object d) ≡ true → IsFilledObject d
IsFilledObject-test null h = cc
IsFilledObject-test (boolean b) h = cc
IsFilledObject-test (number n) h = cc
IsFilledObject-test (string s) h = cc
IsFilledObject-test (array ds) h = cc
IsFilledObject-test (object no_members) h = cc
IsFilledObject-test (object (member k d ms)) h = (k, d, ms, refl)

are_texts-AreTexts : (ds : Items) → AreTexts ds → are_texts ds ≡ true
are_texts-AreTexts no_items h = refl
are_texts-AreTexts (item d ds) h = rw (is_text-IsText d h.0) (are_texts-AreTexts ds h.1)

if_true : (a b : Bool) → (if a then b else false) ≡ true → (a ≡ true) × (b ≡ true)
if_true true b h = (refl, h)
if_true false b h = cc

AreTexts-are_texts : (ds : Items) → are_texts ds ≡ true → AreTexts ds
AreTexts-are_texts no_items h = tt
AreTexts-are_texts (item d ds) h =
    let both = if_true (is_text d) (are_texts ds) h in
    ((unwrap_or (as_str d) [], IsText-is_text d both.0), AreTexts-are_texts ds both.1)

IsTexts-test : (d : Data) → and_test are_texts (as_array d) ≡ true → IsTexts d
IsTexts-test null h = cc
IsTexts-test (boolean b) h = cc
IsTexts-test (number n) h = cc
IsTexts-test (string s) h = cc
IsTexts-test (array ds) h = (ds, refl, AreTexts-are_texts ds h)
IsTexts-test (object ms) h = cc

or_true : (a b : Bool) → a || b ≡ true → (a ≡ true) ⊎ (b ≡ true)
or_true true b h = inl refl
or_true false b h = inr h

or_left : (a b : Bool) → a ≡ true → a || b ≡ true
or_left a b h = rw h refl

or_right : (a b : Bool) → b ≡ true → a || b ≡ true
or_right true b h = refl
or_right false b h = h

-- ---- the checks of a value

-- of three checks none fails
pub three_pass : (a b c : Bool) (f g h : PayloadFault) → first_failing (check f a ∷ check g b ∷ check h (not c) ∷ []) ≡ None → (a ≡ true) × (b ≡ true) × (c ≡ false)
three_pass true true true f g h e = cc
three_pass true true false f g h e = (refl, refl, refl)
three_pass true false c f g h e = cc
three_pass false b c f g h e = cc

passes : (name : List ℕ) (kind : Kind) (d : Data) → is_of_kind kind d ≡ true → is_listed kind d ≡ true → has_fraction kind d ≡ false → first_failing (value_checks name kind d) ≡ None
passes name kind d a b c = rw (a, b, c) refl

pub checked : (name : List ℕ) (kind : Kind) (d : Data) → first_failing (value_checks name kind d) ≡ None → (is_of_kind kind d ≡ true) × (is_listed kind d ≡ true) × (has_fraction kind d ≡ false)
checked name kind d h = three_pass (is_of_kind kind d) (is_listed kind d) (has_fraction kind d) (fault.Kind name) (fault.Value name) (fault.Fraction name) h

Keeps-passes : (name : List ℕ) (kind : Kind) (d : Data) (k : Kept) → Keeps kind d k → (first_failing (value_checks name kind d) ≡ None) × (k ≡ kept_by kind d)
Keeps-passes name AnyText d k (t, is, keeps) = (passes name AnyText d (is_text-IsText d (t, is)) refl refl, rw is keeps)
Keeps-passes name (OneOf texts) d k (t, is, listed, keeps) =
    (passes name (OneOf texts) d (is_text-IsText d (t, is)) (rw is (list_any-from_Contains nat_list_eq_equiv t texts listed)) refl, rw is keeps)
Keeps-passes name Whole d k (z, is, keeps) = (whole d z is, rw is keeps)
  where
    whole : (d : Data) (z : ℤ) → option_and_then as_integer (as_number d) ≡ Some z → first_failing (value_checks name Whole d) ≡ None
    whole null z h = cc
    whole (boolean b) z h = cc
    whole (number (unsigned n)) z h = refl
    whole (number (negative n)) z h = refl
    whole (number (float x)) z h = cc
    whole (string s) z h = cc
    whole (array ds) z h = cc
    whole (object ms) z h = cc
Keeps-passes name TextOrObject d k (inl text, (plain, keeps)) = (passes name TextOrObject d (or_left (is_text d) (is_object d) (is_text-IsText d text)) refl plain, keeps)
Keeps-passes name TextOrObject d k (inr (ms, is), (plain, keeps)) = (passes name TextOrObject d (or_right (is_text d) (is_object d) (rw is refl)) refl plain, keeps)
Keeps-passes name FilledObject d k ((name', first, rest, is), (plain, keeps)) = (passes name FilledObject d (rw is refl) refl plain, keeps)
Keeps-passes name TextOrTexts d k (inl text, (plain, keeps)) = (passes name TextOrTexts d (or_left (is_text d) (and_test are_texts (as_array d)) (is_text-IsText d text)) refl plain, keeps)
Keeps-passes name TextOrTexts d k (inr (ds, is, texts), (plain, keeps)) = (passes name TextOrTexts d (or_right (is_text d) (and_test are_texts (as_array d)) (rw is (are_texts-AreTexts ds texts))) refl plain, keeps)

passes-Keeps : (name : List ℕ) (kind : Kind) (d : Data) → first_failing (value_checks name kind d) ≡ None → Keeps kind d (kept_by kind d)
passes-Keeps name AnyText d h = (unwrap_or (as_str d) [], IsText-is_text d (checked name AnyText d h).0, refl)
passes-Keeps name (OneOf texts) d h =
    let all = checked name (OneOf texts) d h in
    (unwrap_or (as_str d) [], IsText-is_text d all.0, Contains-from_any (λ x y. (bytes_eq-Decides x y).0) (unwrap_or (as_str d) []) texts all.1, refl)
passes-Keeps name Whole d h = whole d h
  where
    whole : (d : Data) → first_failing (value_checks name Whole d) ≡ None → Keeps Whole d (Number (unwrap_or (option_and_then as_integer (as_number d)) (pos 0)))
    whole null h = cc
    whole (boolean b) h = cc
    whole (number (unsigned n)) h = (_, refl, refl)
    whole (number (negative n)) h = (_, refl, refl)
    whole (number (float x)) h = cc
    whole (string s) h = cc
    whole (array ds) h = cc
    whole (object ms) h = cc
passes-Keeps name TextOrObject d h =
    let all = checked name TextOrObject d h in
    (elim (or_true (is_text d) (is_object d) all.0) [ inl a ↦ inl (unwrap_or (as_str d) [], IsText-is_text d a) | inr b ↦ inr (IsObject-is_object d b) ], (all.2, refl))
passes-Keeps name FilledObject d h =
    let all = checked name FilledObject d h in
    (IsFilledObject-test d all.0, (all.2, refl))
passes-Keeps name TextOrTexts d h =
    let all = checked name TextOrTexts d h in
    (elim (or_true (is_text d) (and_test are_texts (as_array d)) all.0) [ inl a ↦ inl (unwrap_or (as_str d) [], IsText-is_text d a) | inr b ↦ inr (IsTexts-test d b) ], (all.2, refl))

-- ---- a member

pub if_there : (req : Bool) (f : PayloadFault) (cs : List (Check PayloadFault)) → first_failing (check f (not req || true) ∷ cs) ≡ first_failing cs
if_there true f cs = refl
if_there false f cs = refl

if_missing : (req : Bool) (f : PayloadFault) → first_failing (check f (not req || false) ∷ []) ≡ None → req ≡ false
if_missing true f h = cc
if_missing false f h = refl

-- what `Has` says, of a member that was looked up
abbrev HasAt : Kind → Bool → Option Data → Option Kept → Type 0
HasAt kind req m None = (req ≡ false) × (m ≡ None)
HasAt kind req m (Some k) = (d : Data) × (m ≡ Some d) × Keeps kind d k

-- its checks
abbrev checks_at : List ℕ → Kind → Bool → Option Data → List (Check PayloadFault)
checks_at name kind req m = check (fault.Missing name) (not req || is_some m) ∷ checks_where_present name kind m

there : (name : List ℕ) (kind : Kind) (req : Bool) (m : Option Data) (k : Option Kept) → HasAt kind req m k → (first_failing (checks_at name kind req m) ≡ None) × (k ≡ option_map (kept_by kind) m)
there name kind req None None h = (rw h.0 refl, refl)
there name kind req None (Some k) (d, is, keeps) = cc
there name kind req (Some e) None h = cc
there name kind req (Some e) (Some k) (d, is, keeps) =
    let same : d ≡ e = cc in
    let all = Keeps-passes name kind e k (subst (λ (x : Data). Keeps kind x k) same keeps) in
    (if_there req (fault.Missing name) (value_checks name kind e) ∙ all.0, ap Some all.1)

back : (name : List ℕ) (kind : Kind) (req : Bool) (m : Option Data) → first_failing (checks_at name kind req m) ≡ None → HasAt kind req m (option_map (kept_by kind) m)
back name kind req None h = (if_missing req (fault.Missing name) h, refl)
back name kind req (Some d) h = (d, refl, passes-Keeps name kind d (sym (if_there req (fault.Missing name) (value_checks name kind d)) ∙ h))

HasAt-Has : (v : Data) (r : Rule) (k : Option Kept) → Has v r k → HasAt r.kind r.required (member_of r.name v) k
HasAt-Has v r None h = h
HasAt-Has v r (Some k) h = h

Has-HasAt : (v : Data) (r : Rule) (k : Option Kept) → HasAt r.kind r.required (member_of r.name v) k → Has v r k
Has-HasAt v r None h = h
Has-HasAt v r (Some k) h = h

pub Has-passes : (v : Data) (r : Rule) (k : Option Kept) → Has v r k → (first_failing (member_checks v r) ≡ None) × (k ≡ kept v r)
unfolding member_checks
Has-passes v r k h = there r.name r.kind r.required (member_of r.name v) k (HasAt-Has v r k h)

pub passes-Has : (v : Data) (r : Rule) → first_failing (member_checks v r) ≡ None → Has v r (kept v r)
unfolding member_checks
passes-Has v r h = Has-HasAt v r (kept v r) (back r.name r.kind r.required (member_of r.name v) h)

pub reads_member : ReadsMember
reads_member v r k = (Has-passes v r k, λ h. subst (λ (x : Option Kept). Has v r x) (sym h.1) (passes-Has v r h.0))
