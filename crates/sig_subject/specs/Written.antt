-- How a subject is written as a JSON value, and which subjects are proper (RFC 9493, section 3; OpenID Shared Signals Framework 1.0,
-- section 4).
use Rattle.std.specs.Prelude.{◌≡◌, ◌≤◌, ℕ, List, [], ◌∷◌, map, Some, Ok, codes, fold, unwrap_or}
use Rattle.serde_json.specs.Data.{Data, null, string, array, object, Members, no_members, put, depth}
use Rattle.serde_json.specs.Read.{max_depth}
use Rattle.serde_json.specs.View.{items_of}
use Rattle.serde_json.specs.Written.{compact_text}
use Rattle.sig_json.specs.Canon.{IsCanonical}
use Rattle.sig_json.specs.Json.{json_of}
use Rattle.sig_json.specs.Order.{InOrder}
use Rattle.sig_subject.specs.declared.plain.Plain.{Plain}
use Rattle.sig_subject.specs.declared.plain.Plain.TheVariants as plain
use Rattle.sig_subject.specs.declared.simple.Simple.{Simple}
use Rattle.sig_subject.specs.declared.simple.Simple.TheVariants as simple
use Rattle.sig_subject.specs.declared.member.Member.{Member}
use Rattle.sig_subject.specs.declared.subject.Subject.{Subject}
use Rattle.sig_subject.specs.declared.subject.Subject.TheVariants as subject
use Rattle.sig_subject.specs.Reading.{subject_of}
use Rattle.sig_subject.specs.Subjects.{SubjectIs}

-- members put in one after another
abbrev pub put_all : Members → List (List ℕ × Data) → Members
put_all members fs = fold (λ ms (f : List ℕ × Data). put f.0 f.1 ms) members fs

-- an object of this format (RFC 9493, section 3)
abbrev pub of_format : List ℕ → List (List ℕ × Data) → Data
of_format format fs = object (put_all no_members ((codes "format", string format) ∷ fs))

-- a kept text is written as the value that it spells
abbrev pub plain_data : Plain → Data
plain_data (plain.Account uri) = of_format (codes "account") ((codes "uri", string uri) ∷ [])
plain_data (plain.Email email) = of_format (codes "email") ((codes "email", string email) ∷ [])
plain_data (plain.IssSub iss sub) = of_format (codes "iss_sub") ((codes "iss", string iss) ∷ (codes "sub", string sub) ∷ [])
plain_data (plain.Opaque id) = of_format (codes "opaque") ((codes "id", string id) ∷ [])
plain_data (plain.Phone number) = of_format (codes "phone_number") ((codes "phone_number", string number) ∷ [])
plain_data (plain.Did url) = of_format (codes "did") ((codes "url", string url) ∷ [])
plain_data (plain.Uri uri) = of_format (codes "uri") ((codes "uri", string uri) ∷ [])
plain_data (plain.JwtId iss jti) = of_format (codes "jwt_id") ((codes "iss", string iss) ∷ (codes "jti", string jti) ∷ [])
plain_data (plain.Saml issuer assertion) = of_format (codes "saml_assertion_id") ((codes "issuer", string issuer) ∷ (codes "assertion_id", string assertion) ∷ [])
plain_data (plain.Unknown canon) = unwrap_or (json_of canon) null

abbrev pub simple_data : Simple → Data
simple_data (simple.Plain p) = plain_data p
simple_data (simple.Aliases ps) = of_format (codes "aliases") ((codes "identifiers", array (items_of (map plain_data ps))) ∷ [])

abbrev pub part_data : Member → List ℕ × Data
part_data m = (m.name, simple_data m.simple)

abbrev pub subject_data : Subject → Data
subject_data (subject.Simple s) = simple_data s
subject_data (subject.Complex parts) = of_format (codes "complex") (map part_data parts)

abbrev pub subject_text : Subject → List ℕ
subject_text s = compact_text (subject_data s)

-- its text spells a value that it is
abbrev pub IsProperSubject : Subject → Type 0
IsProperSubject s = (v : Data) × (json_of (subject_text s) ≡ Some v) × SubjectIs s v

-- a value in order that nests at most 127 deep, as any that a text spells, is written back as the same value
abbrev pub WritesBack : Type 0
WritesBack = (s : Subject) (v : Data) → InOrder v → depth v ≤ max_depth → SubjectIs s v → subject_data s ≡ v

-- what is read of such a value is proper
abbrev pub ReadsProper : Type 0
ReadsProper = (v : Data) (s : Subject) → InOrder v → depth v ≤ max_depth → subject_of v ≡ Ok s → IsProperSubject s

-- what is written of a proper subject is read as an identical one
abbrev pub ReadsWritten : Type 0
ReadsWritten = (s : Subject) → IsProperSubject s → subject_of (subject_data s) ≡ Ok s

-- what is written of a proper subject is canonical
abbrev pub WritesCanonical : Type 0
WritesCanonical = (s : Subject) → IsProperSubject s → IsCanonical (subject_data s)
