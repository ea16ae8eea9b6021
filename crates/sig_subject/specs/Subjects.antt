-- Which subject a JSON value is (RFC 9493, section 3; OpenID Shared Signals Framework 1.0, section 4).
use Rattle.std.specs.Prelude.{◌≡◌, ◌<◌, ℕ, List, [], ◌∷◌, ◌++◌, length, true, false, Some, bytes_eq, codes, if◌then◌else◌, ⊤}
use Rattle.std.specs.List.{list_any}
use Rattle.serde_json.specs.Data.{Data, array, object, Items, no_items, item, Members, no_members, member}
use Rattle.serde_json.specs.Written.{compact_text, has_float}
use Rattle.sig_json.specs.Json.{member_of, text_member}
use Rattle.sig_subject.specs.declared.format.Format.TheVariants as format
use Rattle.sig_subject.specs.declared.format.PlainFormat.TheVariants as plain_format
use Rattle.sig_subject.specs.declared.plain.Plain.{Plain}
use Rattle.sig_subject.specs.declared.plain.Plain.TheVariants as plain
use Rattle.sig_subject.specs.declared.simple.Simple.{Simple}
use Rattle.sig_subject.specs.declared.simple.Simple.TheVariants as simple
use Rattle.sig_subject.specs.declared.member.Member.{Member}
use Rattle.sig_subject.specs.declared.subject.Subject.{Subject}
use Rattle.sig_subject.specs.declared.subject.Subject.TheVariants as subject
use Rattle.sig_subject.specs.Formats.{format_in, formats, part_names}

abbrev pub names_of : Members → List (List ℕ)
names_of no_members = []
names_of (member k d ms) = k ∷ names_of ms

-- the members of a complex subject but its format
abbrev pub parts_of : Members → List (List ℕ × Data)
parts_of no_members = []
parts_of (member k d ms) = if bytes_eq k (codes "format") then parts_of ms else (k, d) ∷ parts_of ms

-- the value is an object whose format is this text (RFC 9493, section 3)
abbrev pub HasFormat : List ℕ → Data → Type 0
HasFormat name v = text_member (codes "format") v ≡ Some name

-- an object of this format with no other members than these (RFC 9493, section 3.2)
pub record HasOnly (format : List ℕ) (names : List (List ℕ)) (v : Data) : Type 0 where
  pub members : Members
  pub is : v ≡ object members
  pub named : HasFormat format v
  pub only : (name : List ℕ) → list_any (bytes_eq name) (names_of members) ≡ true → list_any (bytes_eq name) (codes "format" ∷ names) ≡ true

-- the member is this text, which isn't empty and begins so
pub record HasText (name prefix : List ℕ) (v : Data) (text : List ℕ) : Type 0 where
  pub is : text_member name v ≡ Some text
  pub filled : 0 < length text
  pub rest : List ℕ
  pub begins : text ≡ prefix ++ rest

-- account: RFC 9493, section 3.2.1; email: 3.2.2; iss_sub: 3.2.3; opaque: 3.2.4; phone_number: 3.2.5; did: 3.2.6; uri: 3.2.7;
-- jwt_id and saml_assertion_id: Shared Signals Framework 1.0, section 4; any other format is kept whole
abbrev pub PlainIs : Plain → Data → Type 0
PlainIs (plain.Account uri) v = HasOnly (codes "account") (codes "uri" ∷ []) v × HasText (codes "uri") (codes "acct:") v uri
PlainIs (plain.Email email) v = HasOnly (codes "email") (codes "email" ∷ []) v × HasText (codes "email") [] v email
PlainIs (plain.IssSub iss sub) v = HasOnly (codes "iss_sub") (codes "iss" ∷ codes "sub" ∷ []) v × HasText (codes "iss") [] v iss × HasText (codes "sub") [] v sub
PlainIs (plain.Opaque id) v = HasOnly (codes "opaque") (codes "id" ∷ []) v × HasText (codes "id") [] v id
PlainIs (plain.Phone number) v = HasOnly (codes "phone_number") (codes "phone_number" ∷ []) v × HasText (codes "phone_number") [] v number
PlainIs (plain.Did url) v = HasOnly (codes "did") (codes "url" ∷ []) v × HasText (codes "url") (codes "did:") v url
PlainIs (plain.Uri uri) v = HasOnly (codes "uri") (codes "uri" ∷ []) v × HasText (codes "uri") [] v uri
PlainIs (plain.JwtId iss jti) v = HasOnly (codes "jwt_id") (codes "iss" ∷ codes "jti" ∷ []) v × HasText (codes "iss") [] v iss × HasText (codes "jti") [] v jti
PlainIs (plain.Saml issuer assertion) v =
    HasOnly (codes "saml_assertion_id") (codes "issuer" ∷ codes "assertion_id" ∷ []) v × HasText (codes "issuer") [] v issuer × HasText (codes "assertion_id") [] v assertion
PlainIs (plain.Unknown canon) v =
    ((name : List ℕ) × HasFormat name v × (format_in name formats ≡ format.Plain plain_format.Unknown)) × (has_float v ≡ false) × (canon ≡ compact_text v)

-- item by item
abbrev pub PlainsAre : List Plain → Items → Type 0
PlainsAre [] no_items = ⊤
PlainsAre [] (item d ds) = ⊥
PlainsAre (p ∷ ps) no_items = ⊥
PlainsAre (p ∷ ps) (item d ds) = PlainIs p d × PlainsAre ps ds

-- aliases: one or more identifiers, none of them aliases (RFC 9493, section 3.2.8)
abbrev pub SimpleIs : Simple → Data → Type 0
SimpleIs (simple.Plain p) v = PlainIs p v
SimpleIs (simple.Aliases ps) v =
    HasOnly (codes "aliases") (codes "identifiers" ∷ []) v × ((items : Items) × (member_of (codes "identifiers") v ≡ Some (array items)) × PlainsAre ps items) × (0 < length ps)

-- part by part, under its name
abbrev pub PartsAre : List Member → List (List ℕ × Data) → Type 0
PartsAre [] [] = ⊤
PartsAre [] (p ∷ ps) = ⊥
PartsAre (m ∷ ms) [] = ⊥
PartsAre (m ∷ ms) (p ∷ ps) = (m.name ≡ p.0) × SimpleIs m.simple p.1 × PartsAre ms ps

-- complex: named simple subjects, at least one of them under one of the seven names (Shared Signals Framework 1.0, section 4)
abbrev pub SubjectIs : Subject → Data → Type 0
SubjectIs (subject.Simple s) v = SimpleIs s v
SubjectIs (subject.Complex parts) v =
    HasFormat (codes "complex") v × ((members : Members) × (v ≡ object members) × PartsAre parts (parts_of members))
    × (list_any (λ (m : Member). list_any (bytes_eq m.name) part_names) parts ≡ true)
