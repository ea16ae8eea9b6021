-- Events and their payloads (CAEP 1.0; RISC 1.0; OpenID Shared Signals Framework 1.0, sections 8.1.4 and 8.1.5).
use Rattle.std.specs.Prelude.{◌≡◌, ◌↔◌, ◌≤◌, ℕ, List, [], ◌∷◌, ◌++◌, codes, map, true, Option, Some, None, option_map, Result, Ok}
use Rattle.serde_json.specs.Data.{Data, object, no_members, depth}
use Rattle.serde_json.specs.Read.{max_depth}
use Rattle.serde_json.specs.Written.{compact_text}
use Rattle.sig_json.specs.Canon.{IsCanonical, without_fraction}
use Rattle.sig_json.specs.Checks.{Check, check, decided, first_failing, map_fault}
use Rattle.sig_json.specs.Json.{json_of, member_of}
use Rattle.sig_json.specs.Members.{IsObject, is_object, Rule, AnyText, OneOf, required, optional, Words, AllHave, payload_checks, text_in, value_of}
use Rattle.sig_json.specs.Order.{InOrder}
use Rattle.sig_json.specs.Payloads.{payload_by}
use Rattle.sig_json.specs.declared.members.PayloadFault.{PayloadFault}
use Rattle.sig_subject.specs.declared.subject.Subject.{Subject}
use Rattle.sig_caep.specs.Events as caep
use Rattle.sig_risc.specs.Events as risc
use Rattle.sig_event.specs.Status.{status_text, statuses, status_in}
use Rattle.sig_event.specs.Types.{caep_uri, risc_uri, ssf_uri, uri_of_type, type_of, fits_subject}
use Rattle.sig_event.specs.declared.event.Event.{Event}
use Rattle.sig_event.specs.declared.event.Event.TheVariants as event
use Rattle.sig_event.specs.declared.event_fault.EventFault.{EventFault}
use Rattle.sig_event.specs.declared.event_fault.EventFault.TheVariants as fault
use Rattle.sig_event.specs.declared.event_type.EventType.{EventType}
use Rattle.sig_event.specs.declared.event_type.EventType.TheVariants.{Caep, Risc, Verification, StreamUpdated}

-- ---- the relation

-- the members of a verification event (OpenID Shared Signals Framework 1.0, section 8.1.4)
abbrev pub state_rules : List Rule
state_rules = optional (codes "state") AnyText ∷ []

-- those of a stream updated event (section 8.1.5)
abbrev pub update_rules : List Rule
update_rules = required (codes "status") (OneOf (map status_text statuses)) ∷ optional (codes "reason") AnyText ∷ []

-- the event is what an event with this URI and this payload says of the subject: an event of CAEP, of RISC, one of a
-- stream, or any other
abbrev pub EventIs : Event → List ℕ → Data → Subject → Type 0
EventIs (event.Caep e) uri v s = (name : List ℕ) × (uri ≡ caep_uri ++ name) × caep.CaepIs e name v
EventIs (event.Risc e) uri v s = (name : List ℕ) × (uri ≡ risc_uri ++ name) × risc.RiscIs e name v × (fits_subject (Risc (risc.type_of e)) s ≡ true)
EventIs (event.Verification state) uri v s = (uri ≡ ssf_uri ++ codes "verification") × AllHave v state_rules (option_map (λ t. Words t) state ∷ [])
EventIs (event.StreamUpdated status reason) uri v s =
    (uri ≡ ssf_uri ++ codes "stream-updated") × AllHave v update_rules (Some (Words (status_text status)) ∷ option_map (λ t. Words t) reason ∷ [])
EventIs (event.Other other) uri v s = (other ≡ uri) × (type_of uri ≡ None)

-- the payload is an object, and the event is what it says
abbrev pub IsEvent : Event → List ℕ → Data → Subject → Type 0
IsEvent e uri v s = IsObject v × EventIs e uri v s

-- ---- the reading

-- the checks of the payload of a type
abbrev pub type_checks : EventType → Data → List (Check PayloadFault)
type_checks (Caep type) v = caep.caep_checks type v
type_checks (Risc type) v = risc.risc_checks type v
type_checks Verification v = payload_checks state_rules v
type_checks StreamUpdated v = payload_checks update_rules v

-- the event of a type, by the payload
abbrev pub event_by : EventType → Data → Event
event_by (Caep type) v = event.Caep (caep.event_in type v)
event_by (Risc type) v = event.Risc (risc.event_in type v)
event_by Verification v = event.Verification (option_map text_in (member_of (codes "state") v))
event_by StreamUpdated v = event.StreamUpdated (status_in (value_of (codes "status") v)) (option_map text_in (member_of (codes "reason") v))

-- the payload's checks and then the subject's
abbrev pub known_checks : Option EventType → Data → Subject → List (Check EventFault)
known_checks None v s = []
known_checks (Some type) v s = map (map_fault (λ f. fault.Payload f)) (type_checks type v) ++ check fault.Subject (fits_subject type s) ∷ []

abbrev pub event_checks : Option EventType → Data → Subject → List (Check EventFault)
event_checks type v s = check fault.NotObject (is_object v) ∷ known_checks type v s

abbrev pub event_in : Option EventType → List ℕ → Data → Event
event_in None uri v = event.Other uri
event_in (Some type) uri v = event_by type v

-- the event with this URI and this payload about the subject, or the fault of the first check that fails
abbrev pub event_of : List ℕ → Data → Subject → Result Event EventFault
event_of uri v s = decided (first_failing (event_checks (type_of uri) v s)) (event_in (type_of uri) uri v)

-- ---- what is written

-- the type of an event; none for an event that isn't read
abbrev pub type_of_event : Event → Option EventType
type_of_event (event.Caep e) = Some (Caep (caep.type_of e.kind))
type_of_event (event.Risc e) = Some (Risc (risc.type_of e))
type_of_event (event.Verification state) = Some Verification
type_of_event (event.StreamUpdated status reason) = Some StreamUpdated
type_of_event (event.Other uri) = None

-- the URI of an event
abbrev pub uri_of : Event → List ℕ
uri_of (event.Caep e) = uri_of_type (Caep (caep.type_of e.kind))
uri_of (event.Risc e) = uri_of_type (Risc (risc.type_of e))
uri_of (event.Verification state) = uri_of_type Verification
uri_of (event.StreamUpdated status reason) = uri_of_type StreamUpdated
uri_of (event.Other uri) = uri

-- the payload of an event; an empty object for an event that isn't read
abbrev pub payload_of : Event → Data
payload_of (event.Caep e) = caep.caep_payload e
payload_of (event.Risc e) = risc.risc_payload e
payload_of (event.Verification state) = payload_by state_rules (option_map (λ t. Words t) state ∷ [])
payload_of (event.StreamUpdated status reason) = payload_by update_rules (Some (Words (status_text status)) ∷ option_map (λ t. Words t) reason ∷ [])
payload_of (event.Other uri) = object no_members

-- the text of an event's payload; null for one with a fraction, which no event that was read has
abbrev pub event_text : Event → List ℕ
event_text e = compact_text (without_fraction (payload_of e))

-- the event's payload is written as a text that spells an object, and the event is what that object says
abbrev pub IsProperEvent : Event → Subject → Type 0
IsProperEvent e s = (v : Data) × (json_of (compact_text (payload_of e)) ≡ Some v) × IsEvent e (uri_of e) v s

-- ---- the laws

-- the relation and the reading agree
abbrev pub ReadsEvents : Type 0
ReadsEvents = (e : Event) (uri : List ℕ) (v : Data) (s : Subject) → IsEvent e uri v s ↔ (event_of uri v s ≡ Ok e)

-- what is read of a payload in order that nests at most 127 deep, as any that a text spells and each of its members, is
-- proper, and is written no deeper
abbrev pub ReadsProper : Type 0
ReadsProper = (uri : List ℕ) (v : Data) (s : Subject) (e : Event) → InOrder v → depth v ≤ max_depth → event_of uri v s ≡ Ok e
    → IsProperEvent e s × (depth (payload_of e) ≤ depth v)

-- the text of a proper event's payload is that of the payload itself
abbrev pub TextIsPayload : Type 0
TextIsPayload = (e : Event) (s : Subject) → IsProperEvent e s → event_text e ≡ compact_text (payload_of e)

-- what is written of a proper event is read as an equal one
abbrev pub ReadsWritten : Type 0
ReadsWritten = (e : Event) (s : Subject) → IsProperEvent e s → event_of (uri_of e) (payload_of e) s ≡ Ok e

-- what is written of a proper event is canonical
abbrev pub WritesCanonical : Type 0
WritesCanonical = (e : Event) (s : Subject) → IsProperEvent e s → IsCanonical (payload_of e)
