-- The types of events and their URIs, and the subjects that they fit.
use Rattle.std.specs.Prelude.{◌≡◌, ℕ, List, [], ◌∷◌, ◌++◌, ◌||◌, codes, map, Bool, true, false, not, Option, Some, None, is_some}
use Rattle.sig_json.specs.Listed.{listed}
use Rattle.sig_subject.specs.declared.plain.Plain.TheVariants.{Email, Phone}
use Rattle.sig_subject.specs.declared.simple.Simple.TheVariants as simple
use Rattle.sig_subject.specs.declared.subject.Subject.{Subject}
use Rattle.sig_subject.specs.declared.subject.Subject.TheVariants as subject
use Rattle.sig_caep.specs.Table.{caep_table, caep_types}
use Rattle.sig_caep.specs.declared.event_type.CaepType.{CaepType}
use Rattle.sig_risc.specs.Table.{risc_table, risc_types}
use Rattle.sig_risc.specs.declared.event_type.RiscType.{RiscType}
use Rattle.sig_risc.specs.declared.event_type.RiscType.TheVariants as risc
use Rattle.sig_event.specs.declared.event_type.EventType.{EventType}
use Rattle.sig_event.specs.declared.event_type.EventType.TheVariants.{Caep, Risc, Verification, StreamUpdated}

-- the URI of a type of CAEP begins so (CAEP 1.0, section 3)
abbrev pub caep_uri : List ℕ
caep_uri = codes "https://schemas.openid.net/secevent/caep/event-type/"

-- that of a type of RISC (RISC 1.0, section 2)
abbrev pub risc_uri : List ℕ
risc_uri = codes "https://schemas.openid.net/secevent/risc/event-type/"

-- that of an event of a stream (OpenID Shared Signals Framework 1.0, sections 8.1.4 and 8.1.5)
abbrev pub ssf_uri : List ℕ
ssf_uri = codes "https://schemas.openid.net/secevent/ssf/event-type/"

abbrev pub caep_uri_of : CaepType → List ℕ
caep_uri_of type = caep_uri ++ (caep_table type).name

abbrev pub risc_uri_of : RiscType → List ℕ
risc_uri_of type = risc_uri ++ (risc_table type).name

-- the URI of a type
unfoldable pub uri_of_type : EventType → List ℕ
uri_of_type (Caep type) = caep_uri_of type
uri_of_type (Risc type) = risc_uri_of type
uri_of_type Verification = ssf_uri ++ codes "verification"
uri_of_type StreamUpdated = ssf_uri ++ codes "stream-updated"

-- the types that a transmitter publishes, in order: those of CAEP and those of RISC (CAEP 1.0, section 3; RISC 1.0, section 2)
unfoldable pub published_types : List EventType
published_types = map (λ t. Caep t) caep_types ++ map (λ t. Risc t) risc_types

-- the types in order: those that are published, and the two of a stream
unfoldable pub event_types : List EventType
event_types = published_types ++ Verification ∷ StreamUpdated ∷ []

-- the type is there, and is one that is published
abbrev pub is_published : Option EventType → Bool
is_published None = false
is_published (Some (Caep type)) = true
is_published (Some (Risc type)) = true
is_published (Some Verification) = false
is_published (Some StreamUpdated) = false

-- a type's URI is that of one in the list exactly where the type is published
abbrev pub ListsPublished : Type 0
ListsPublished = (type : EventType) → is_some (listed uri_of_type published_types (uri_of_type type)) ≡ is_published (Some type)

-- the type with this URI
abbrev pub type_of : List ℕ → Option EventType
type_of uri = listed uri_of_type event_types uri

-- an event about an identifier (RISC 1.0, sections 2.5 and 2.6)
abbrev pub is_about_identifier : EventType → Bool
is_about_identifier (Risc risc.IdentifierChanged) = true
is_about_identifier (Risc risc.IdentifierRecycled) = true
is_about_identifier type = false

-- an e-mail address or a telephone number (RFC 9493, sections 3.2.2 and 3.2.5)
abbrev pub is_identifier : Subject → Bool
is_identifier (subject.Simple (simple.Plain (Email email))) = true
is_identifier (subject.Simple (simple.Plain (Phone number))) = true
is_identifier s = false

-- whether an event of the type may be about the subject
abbrev pub fits_subject : EventType → Subject → Bool
fits_subject type s = not (is_about_identifier type) || is_identifier s
