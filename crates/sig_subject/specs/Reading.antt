-- How a JSON value is read as a subject: one list of checks, of which the first that fails decides (RFC 9493, section 3.2;
-- OpenID Shared Signals Framework 1.0, section 4).
use Rattle.std.specs.Prelude.{◌≡◌, ◌↔◌, ◌&&◌, ℕ, List, [], ◌∷◌, ◌++◌, map, flat_map, length, Bool, false, not, nat_eq, nat_lt, Option, Some, None, Result, Ok, is_some, option_and_then, unwrap_or, bytes_eq, codes, ◌||◌, if◌then◌else◌}
use Rattle.std.specs.List.{list_any, starts_with}
use Rattle.serde_json.specs.Data.{Data, Items, no_items, item, Members, no_members, member}
use Rattle.serde_json.specs.Find.{as_array, as_object}
use Rattle.serde_json.specs.Written.{compact_text, has_float}
use Rattle.sig_json.specs.Checks.{Check, check, first_failing, decided}
use Rattle.sig_json.specs.Json.{member_of, text_member}
use Rattle.sig_subject.specs.declared.format.Format.{Format}
use Rattle.sig_subject.specs.declared.format.Format.TheVariants as format
use Rattle.sig_subject.specs.declared.format.PlainFormat.{PlainFormat}
use Rattle.sig_subject.specs.declared.format.PlainFormat.TheVariants as plain_format
use Rattle.sig_subject.specs.declared.plain.Plain.{Plain}
use Rattle.sig_subject.specs.declared.plain.Plain.TheVariants as plain
use Rattle.sig_subject.specs.declared.simple.Simple.{Simple}
use Rattle.sig_subject.specs.declared.simple.Simple.TheVariants as simple
use Rattle.sig_subject.specs.declared.member.Member.{Member}
use Rattle.sig_subject.specs.declared.subject.Subject.{Subject}
use Rattle.sig_subject.specs.declared.subject.Subject.TheVariants as subject
use Rattle.sig_subject.specs.declared.subject_fault.SubjectFault.{SubjectFault}
use Rattle.sig_subject.specs.declared.subject_fault.SubjectFault.TheVariants as fault
use Rattle.sig_subject.specs.Formats.{Field, fields_of, format_in, formats, part_names}
use Rattle.sig_subject.specs.Subjects.{SubjectIs, parts_of}

-- ---- what a value has, and nothing where it lacks it

-- the format that its member `format` names
abbrev pub format_of : Data → Format
format_of v = format_in (unwrap_or (text_member (codes "format") v) []) formats

abbrev pub text_in : List ℕ → Data → List ℕ
text_in name v = unwrap_or (text_member name v) []

abbrev pub members_in : Data → Members
members_in v = unwrap_or (as_object v) no_members

-- the items of `identifiers`
abbrev pub identifiers_in : Data → Option Items
identifiers_in v = option_and_then as_array (member_of (codes "identifiers") v)

abbrev pub values_of : Items → List Data
values_of no_items = []
values_of (item d ds) = d ∷ values_of ds

abbrev pub items_in : Data → List Data
items_in v = values_of (unwrap_or (identifiers_in v) no_items)

-- ---- checks

-- the value is an object, and its format is a text
abbrev pub has_format : Data → Check SubjectFault
has_format v = check fault.Format (is_some (text_member (codes "format") v))

-- the text is there, isn't empty and begins so
abbrev pub fills : List ℕ → Option (List ℕ) → Bool
fills prefix None = false
fills prefix (Some text) = nat_lt 0 (length text) && starts_with nat_eq text prefix

abbrev pub field_check : Data → Field → Check SubjectFault
field_check v f = check (fault.Member f.name) (fills f.prefix (text_member f.name v))

-- the first member, in byte order, that is neither the format nor one of these
abbrev pub other_in : List (List ℕ) → Members → Option (List ℕ)
other_in names no_members = None
other_in names (member k d ms) = if bytes_eq k (codes "format") || list_any (bytes_eq k) names then other_in names ms else Some k

abbrev pub has_no_other : List (List ℕ) → Data → Check SubjectFault
has_no_other names v = check (fault.Member (unwrap_or (other_in names (members_in v)) [])) (not (is_some (other_in names (members_in v))))

-- an object, as the member of this name has to be
abbrev pub is_object : List ℕ → Data → Check SubjectFault
is_object name v = check (fault.Member name) (is_some (as_object v))

-- an unknown format is kept as text, and so has no fraction
abbrev pub plain_checks : PlainFormat → Data → List (Check SubjectFault)
plain_checks plain_format.Unknown v = check fault.Fraction (not (has_float v)) ∷ []
plain_checks f v = map (field_check v) (fields_of f) ++ has_no_other (map (λ (x : Field). x.name) (fields_of f)) v ∷ []

-- an item of `identifiers` is neither aliases nor complex
abbrev pub item_checks_by : Format → Data → List (Check SubjectFault)
item_checks_by (format.Plain f) v = plain_checks f v
item_checks_by format.Aliases v = check fault.Nested false ∷ []
item_checks_by format.Complex v = check fault.Nested false ∷ []

abbrev pub item_checks : Data → List (Check SubjectFault)
item_checks v = is_object (codes "identifiers") v ∷ has_format v ∷ item_checks_by (format_of v) v

abbrev pub aliases_checks : Data → List (Check SubjectFault)
aliases_checks v =
    check (fault.Member (codes "identifiers")) (is_some (identifiers_in v)) ∷ has_no_other (codes "identifiers" ∷ []) v ∷ check fault.Empty (nat_lt 0 (length (items_in v)))
    ∷ flat_map item_checks (items_in v)

-- a part of a complex subject isn't complex
abbrev pub simple_checks : Format → Data → List (Check SubjectFault)
simple_checks (format.Plain f) v = plain_checks f v
simple_checks format.Aliases v = aliases_checks v
simple_checks format.Complex v = check fault.Nested false ∷ []

abbrev pub part_checks : List ℕ × Data → List (Check SubjectFault)
part_checks p = is_object p.0 p.1 ∷ has_format p.1 ∷ simple_checks (format_of p.1) p.1

-- one of the parts is one of the seven
abbrev pub has_part : List (List ℕ × Data) → Bool
has_part ps = list_any (λ (p : List ℕ × Data). list_any (bytes_eq p.0) part_names) ps

abbrev pub complex_checks : Data → List (Check SubjectFault)
complex_checks v =
    check fault.Empty (has_part (parts_of (members_in v))) ∷ flat_map part_checks (parts_of (members_in v))

abbrev pub checks_by : Format → Data → List (Check SubjectFault)
checks_by (format.Plain f) v = plain_checks f v
checks_by format.Aliases v = aliases_checks v
checks_by format.Complex v = complex_checks v

-- ---- the subject of a value that passes

abbrev pub plain_by : PlainFormat → Data → Plain
plain_by plain_format.Account v = plain.Account (text_in (codes "uri") v)
plain_by plain_format.Email v = plain.Email (text_in (codes "email") v)
plain_by plain_format.IssSub v = plain.IssSub (text_in (codes "iss") v) (text_in (codes "sub") v)
plain_by plain_format.Opaque v = plain.Opaque (text_in (codes "id") v)
plain_by plain_format.Phone v = plain.Phone (text_in (codes "phone_number") v)
plain_by plain_format.Did v = plain.Did (text_in (codes "url") v)
plain_by plain_format.Uri v = plain.Uri (text_in (codes "uri") v)
plain_by plain_format.JwtId v = plain.JwtId (text_in (codes "iss") v) (text_in (codes "jti") v)
plain_by plain_format.Saml v = plain.Saml (text_in (codes "issuer") v) (text_in (codes "assertion_id") v)
plain_by plain_format.Unknown v = plain.Unknown (compact_text v)

abbrev pub plain_by_format : Format → Data → Plain
plain_by_format (format.Plain f) v = plain_by f v
plain_by_format format.Aliases v = plain.Unknown []
plain_by_format format.Complex v = plain.Unknown []

abbrev pub item_by : Data → Plain
item_by v = plain_by_format (format_of v) v

abbrev pub identifiers_by : Data → List Plain
identifiers_by v = map item_by (items_in v)

abbrev pub simple_by : Format → Data → Simple
simple_by (format.Plain f) v = simple.Plain (plain_by f v)
simple_by format.Aliases v = simple.Aliases (identifiers_by v)
simple_by format.Complex v = simple.Aliases []

abbrev pub part_by : List ℕ × Data → Member
part_by p = record { name = p.0; simple = simple_by (format_of p.1) p.1 }

abbrev pub parts_by : Data → List Member
parts_by v = map part_by (parts_of (members_in v))

abbrev pub subject_by : Format → Data → Subject
subject_by (format.Plain f) v = subject.Simple (simple_by (format.Plain f) v)
subject_by format.Aliases v = subject.Simple (simple_by format.Aliases v)
subject_by format.Complex v = subject.Complex (parts_by v)

-- the subject, or the fault of the first check that fails
abbrev pub subject_of : Data → Result Subject SubjectFault
subject_of v = decided (first_failing (has_format v ∷ checks_by (format_of v) v)) (subject_by (format_of v) v)

-- a value is read as a subject exactly where it is that subject
abbrev pub ReadsSubjects : Type 0
ReadsSubjects = (s : Subject) (v : Data) → SubjectIs s v ↔ (subject_of v ≡ Ok s)
