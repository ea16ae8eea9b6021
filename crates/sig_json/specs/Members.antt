-- Members of the payload of an event: what each may be, the order of its checks, and what is kept of it.
use Rattle.std.specs.Prelude.{◌≡◌, ◌⊎◌, ◌↔◌, ◌||◌, if◌then◌else◌, ℕ, ℤ, pos, List, [], ◌∷◌, Bool, true, false, not, Contains, Option, Some, None, is_some, option_map, option_and_then, unwrap_or, ⊤}
use Rattle.std.specs.List.{flat_map, list_any}
use Rattle.std.specs.Str.{bytes_eq}
use Rattle.serde_json.specs.Data.{Data, null, string, array, object, Items, no_items, item, Members, no_members, member}
use Rattle.serde_json.specs.Find.{as_str, as_number, as_integer, as_array, as_object}
use Rattle.serde_json.specs.Written.{compact_text, has_float}
use Rattle.sig_json.specs.Checks.{Check, check, first_failing}
use Rattle.sig_json.specs.Json.{member_of}
use Rattle.sig_json.specs.declared.members.PayloadFault.{PayloadFault}
use Rattle.sig_json.specs.declared.members.PayloadFault.TheVariants as fault

-- ---- the words of a table

-- what a member may be: a text, a text of a closed list, a whole number, a text or an object, an object with at least
-- one member, a text or a list of texts
pub data Kind : Type 0 where
  AnyText : Kind
  OneOf : List (List ℕ) → Kind
  Whole : Kind
  TextOrObject : Kind
  FilledObject : Kind
  TextOrTexts : Kind

-- a member of a table's row
pub record Rule : Type 0 where
  pub name : List ℕ
  pub kind : Kind
  pub required : Bool

abbrev pub required : List ℕ → Kind → Rule
required name kind = record { name = name; kind = kind; required = true }

abbrev pub optional : List ℕ → Kind → Rule
optional name kind = record { name = name; kind = kind; required = false }

-- a row of a table: the type's name, and its members in order of checking
pub record TypeRow : Type 0 where
  pub name : List ℕ
  pub rules : List Rule

abbrev pub row_of : List ℕ → List Rule → TypeRow
row_of name rules = record { name = name; rules = rules }

-- ---- the relation

-- what an event keeps of a member: a text, a whole number, or the canonical text of a value
pub data Kept : Type 0 where
  Words : List ℕ → Kept
  Number : ℤ → Kept
  Canonical : List ℕ → Kept

abbrev pub IsText : Data → Type 0
IsText d = (t : List ℕ) × (d ≡ string t)

abbrev pub IsObject : Data → Type 0
IsObject d = (ms : Members) × (d ≡ object ms)

abbrev pub IsFilledObject : Data → Type 0
IsFilledObject d = (name : List ℕ) × (first : Data) × (rest : Members) × (d ≡ object (member name first rest))

abbrev pub AreTexts : Items → Type 0
AreTexts no_items = ⊤
AreTexts (item d ds) = IsText d × AreTexts ds

abbrev pub IsTexts : Data → Type 0
IsTexts d = (ds : Items) × (d ≡ array ds) × AreTexts ds

-- the value is kept whole: no fraction stands in it, and its canonical text is kept (RFC 8259)
abbrev pub KeepsWhole : Data → Kept → Type 0
KeepsWhole d k = (has_float d ≡ false) × (k ≡ Canonical (compact_text d))

-- a value of this kind, and what is kept of it
abbrev pub Keeps : Kind → Data → Kept → Type 0
Keeps AnyText d k = (t : List ℕ) × (d ≡ string t) × (k ≡ Words t)
Keeps (OneOf texts) d k = (t : List ℕ) × (d ≡ string t) × Contains texts t × (k ≡ Words t)
Keeps Whole d k = (z : ℤ) × (option_and_then as_integer (as_number d) ≡ Some z) × (k ≡ Number z)
Keeps TextOrObject d k = (IsText d ⊎ IsObject d) × KeepsWhole d k
Keeps FilledObject d k = IsFilledObject d × KeepsWhole d k
Keeps TextOrTexts d k = (IsText d ⊎ IsTexts d) × KeepsWhole d k

-- the payload has the member with this kept of it, or lacks it where it may
abbrev pub Has : Data → Rule → Option Kept → Type 0
Has v r None = (r.required ≡ false) × (member_of r.name v ≡ None)
Has v r (Some k) = (d : Data) × (member_of r.name v ≡ Some d) × Keeps r.kind d k

-- member by member
abbrev pub AllHave : Data → List Rule → List (Option Kept) → Type 0
AllHave v [] [] = ⊤
AllHave v [] (k ∷ ks) = ⊥
AllHave v (r ∷ rs) [] = ⊥
AllHave v (r ∷ rs) (k ∷ ks) = Has v r k × AllHave v rs ks

-- ---- the reading

abbrev pub is_text : Data → Bool
is_text d = is_some (as_str d)

abbrev pub is_object : Data → Bool
is_object d = is_some (as_object d)

abbrev pub has_members : Members → Bool
has_members no_members = false
has_members (member name d ms) = true

abbrev pub are_texts : Items → Bool
are_texts no_items = true
are_texts (item d ds) = if is_text d then are_texts ds else false

-- the answer where it is there, and else no
abbrev pub and_test : {T : Type 0} → (T → Bool) → Option T → Bool
and_test test o = unwrap_or (option_map test o) false

abbrev pub is_of_kind : Kind → Data → Bool
is_of_kind AnyText d = is_text d
is_of_kind (OneOf texts) d = is_text d
is_of_kind Whole d = is_some (as_number d)
is_of_kind TextOrObject d = is_text d || is_object d
is_of_kind FilledObject d = and_test has_members (as_object d)
is_of_kind TextOrTexts d = is_text d || and_test are_texts (as_array d)

-- the text, nothing where it is none
unfoldable pub text_in : Data → List ℕ
text_in d = unwrap_or (as_str d) []

-- the whole number, 0 where it is none
unfoldable pub whole_in : Data → ℤ
whole_in d = unwrap_or (option_and_then as_integer (as_number d)) (pos 0)

abbrev pub is_listed : Kind → Data → Bool
is_listed AnyText d = true
is_listed (OneOf texts) d = list_any (bytes_eq (unwrap_or (as_str d) [])) texts
is_listed Whole d = true
is_listed TextOrObject d = true
is_listed FilledObject d = true
is_listed TextOrTexts d = true

-- a fraction where a whole number is read, or inside a value that is kept
abbrev pub has_fraction : Kind → Data → Bool
has_fraction AnyText d = false
has_fraction (OneOf texts) d = false
has_fraction Whole d = has_float d
has_fraction TextOrObject d = has_float d
has_fraction FilledObject d = has_float d
has_fraction TextOrTexts d = has_float d

-- the checks of a member that is there
abbrev pub value_checks : List ℕ → Kind → Data → List (Check PayloadFault)
value_checks name kind d =
    check (fault.Kind name) (is_of_kind kind d)
    ∷ check (fault.Value name) (is_listed kind d)
    ∷ check (fault.Fraction name) (not (has_fraction kind d))
    ∷ []

-- the checks of a member that is kept whole
abbrev pub kept_checks : List ℕ → Bool → Data → List (Check PayloadFault)
kept_checks name of_kind d = check (fault.Kind name) of_kind ∷ check (fault.Value name) true ∷ check (fault.Fraction name) (not (has_float d)) ∷ []

abbrev pub checks_where_present : List ℕ → Kind → Option Data → List (Check PayloadFault)
checks_where_present name kind None = []
checks_where_present name kind (Some d) = value_checks name kind d

-- the checks of a member
unfoldable pub member_checks : Data → Rule → List (Check PayloadFault)
member_checks v r =
    check (fault.Missing r.name) (not r.required || is_some (member_of r.name v)) ∷ checks_where_present r.name r.kind (member_of r.name v)

abbrev pub payload_checks : List Rule → Data → List (Check PayloadFault)
payload_checks rules v = flat_map (member_checks v) rules

abbrev pub kept_by : Kind → Data → Kept
kept_by AnyText d = Words (unwrap_or (as_str d) [])
kept_by (OneOf texts) d = Words (unwrap_or (as_str d) [])
kept_by Whole d = Number (unwrap_or (option_and_then as_integer (as_number d)) (pos 0))
kept_by TextOrObject d = Canonical (compact_text d)
kept_by FilledObject d = Canonical (compact_text d)
kept_by TextOrTexts d = Canonical (compact_text d)

-- what is kept of a member
abbrev pub kept : Data → Rule → Option Kept
kept v r = option_map (kept_by r.kind) (member_of r.name v)

-- the member, null where it isn't there
unfoldable pub value_of : List ℕ → Data → Data
value_of name v = unwrap_or (member_of name v) null

-- ---- the law

-- a member is there with this kept of it exactly where no check fails and this is kept
abbrev pub ReadsMember : Type 0
ReadsMember = (v : Data) (r : Rule) (k : Option Kept) → Has v r k ↔ ((first_failing (member_checks v r) ≡ None) × (k ≡ kept v r))
