-- What a token's payload says (RFC 8417, section 2.2): the claims as a relation, and as they are read.
use Rattle.std.specs.Prelude.{◌≡◌, ◌<◌, ◌↔◌, ℕ, List, [], ◌∷◌, ◌++◌, Bool, true, Option, Some, None, Result, Ok, Err, codes, length, is_some, is_ok, not, option_and_then, unwrap_or, ⊤}
use Rattle.std.specs.Result.{result_ok}
use Rattle.serde_json.specs.Data.{Data, null, boolean, number, string, array, object, Items, no_items, item, Members, no_members, member}
use Rattle.serde_json.specs.Find.{as_str, as_object}
use Rattle.sig_json.specs.Checks.{Check, first_failing}
use Rattle.sig_json.specs.Json.{member_of, text_member, whole_member}
use Rattle.sig_subject.specs.declared.plain.Plain.TheVariants as plain
use Rattle.sig_subject.specs.declared.simple.Simple.TheVariants as simple
use Rattle.sig_subject.specs.declared.subject.Subject.{Subject}
use Rattle.sig_subject.specs.declared.subject.Subject.TheVariants as subject
use Rattle.sig_subject.specs.Reading.{subject_of}
use Rattle.sig_subject.specs.Subjects.{SubjectIs}
use Rattle.sig_event.specs.declared.claims.Claims.{Claims}
use Rattle.sig_event.specs.declared.event.Event.{Event}
use Rattle.sig_event.specs.declared.event_fault.EventFault.{EventFault}
use Rattle.sig_event.specs.Events.{IsEvent, event_of}
use Rattle.sig_set.specs.declared.refusal.Code.TheVariants.{InvalidRequest}
use Rattle.sig_set.specs.declared.refusal.Spot.TheVariants as spot
use Rattle.sig_set.specs.Checks.{Fault, refused_unless}
use Rattle.sig_set.specs.Tests.{has_member, is_filled_and_wanted, time_of, where_there}

-- ---- the audience: a text, or a list of texts (RFC 7519, section 4.1.3)

-- a text before others
abbrev pub one_before : Option (List ℕ) → Option (List (List ℕ)) → Option (List (List ℕ))
one_before None texts = None
one_before (Some text) None = None
one_before (Some text) (Some texts) = Some (text ∷ texts)

-- the texts of a list, where it has nothing else
abbrev pub texts_of : Items → Option (List (List ℕ))
texts_of no_items = Some []
texts_of (item d ds) = one_before (as_str d) (texts_of ds)

abbrev pub audience_of : Data → Option (List (List ℕ))
audience_of null = None
audience_of (boolean b) = None
audience_of (number n) = None
audience_of (string text) = Some (text ∷ [])
audience_of (array ds) = texts_of ds
audience_of (object ms) = None

-- ---- the events, in the order of the members, which is byte order of their URIs in a value that was read

-- an event before others
abbrev pub event_before : Result Event EventFault → Option (List Event) → Option (List Event)
event_before (Err fault) events = None
event_before (Ok e) None = None
event_before (Ok e) (Some events) = Some (e ∷ events)

-- the events of members about a subject, where each member is one
abbrev pub events_of : Subject → Members → Option (List Event)
events_of s no_members = Some []
events_of s (member uri v ms) = event_before (event_of uri v s) (events_of s ms)

-- ---- the relation

-- event by event
abbrev pub EventsAre : List Event → Members → Subject → Type 0
EventsAre [] no_members s = ⊤
EventsAre [] (member uri v ms) s = ⊥
EventsAre (e ∷ es) no_members s = ⊥
EventsAre (e ∷ es) (member uri v ms) s = IsEvent e uri v s × EventsAre es ms s

-- the claims are what the payload says by these members, and it has neither `exp` nor `sub`; `txn`, `toe` and members
-- that are not known are passed over (OpenID Shared Signals Framework 1.0, section 4; RFC 8417, section 2.2)
pub record ClaimsAre (claims : Claims) (v : Data) : Type 0 where
  pub iss : text_member (codes "iss") v ≡ Some claims.iss
  pub aud : option_and_then audience_of (member_of (codes "aud") v) ≡ Some claims.aud
  pub jti : text_member (codes "jti") v ≡ Some claims.jti
  pub identified : 0 < length claims.jti
  pub iat : time_of (whole_member (codes "iat") v) ≡ Some claims.iat
  pub lasting : member_of (codes "exp") v ≡ None
  pub apart : member_of (codes "sub") v ≡ None
  pub named : Data
  pub names : member_of (codes "sub_id") v ≡ Some named
  pub subject : SubjectIs claims.subject named
  pub members : Members
  pub lists : member_of (codes "events") v ≡ Some (object members)
  pub happened : 0 < length claims.events
  pub events : EventsAre claims.events members claims.subject

-- ---- the reading

-- the subject of a payload; where it has none, one without a name
abbrev pub no_subject : Subject
no_subject = subject.Simple (simple.Plain (plain.Opaque []))

abbrev pub subject_in : Option Data → Subject
subject_in payload = unwrap_or (option_and_then (λ d. result_ok (subject_of d)) (option_and_then (member_of (codes "sub_id")) payload)) no_subject

-- the members of `events`
abbrev pub events_in : Option Data → Members
events_in payload = unwrap_or (option_and_then as_object (option_and_then (member_of (codes "events")) payload)) no_members

-- the time of issue
abbrev pub time_in : Option Data → Option ℕ
time_in payload = time_of (option_and_then (whole_member (codes "iat")) payload)

-- a text of a payload
abbrev pub text_in : List ℕ → Option Data → Option (List ℕ)
text_in name payload = option_and_then (text_member name) payload

-- a payload has the member
abbrev pub has_in : List ℕ → Option Data → Bool
has_in name payload = is_some (option_and_then (member_of name) payload)

-- the audience
abbrev pub audience_in : Option Data → Option (List (List ℕ))
audience_in payload = option_and_then audience_of (option_and_then (member_of (codes "aud")) payload)

-- the claims of a payload; what is missing is nothing
abbrev pub claims_in : Option Data → Claims
claims_in payload = record {
  iss = unwrap_or (text_in (codes "iss") payload) [];
  jti = unwrap_or (text_in (codes "jti") payload) [];
  iat = unwrap_or (time_in payload) 0;
  aud = unwrap_or (audience_in payload) [];
  subject = subject_in payload;
  events = unwrap_or (events_of (subject_in payload) (events_in payload)) [];
}

-- the checks of a payload's identifier, which is the one that is named where one is; of its time; and that it has neither
-- an end nor a second subject
abbrev pub stamp_checks : Option (List ℕ) → Option Data → List (Check Fault)
stamp_checks wanted payload =
    refused_unless InvalidRequest spot.Jti (is_filled_and_wanted wanted (text_in (codes "jti") payload))
    ∷ refused_unless InvalidRequest spot.Iat (is_some (time_in payload))
    ∷ refused_unless InvalidRequest spot.Exp (not (has_in (codes "exp") payload))
    ∷ refused_unless InvalidRequest spot.Sub (not (has_in (codes "sub") payload))
    ∷ []

-- that it has a subject
abbrev pub subject_checks : Option Data → List (Check Fault)
subject_checks payload =
    refused_unless InvalidRequest spot.SubId (where_there (λ d. is_ok (subject_of d)) (option_and_then (member_of (codes "sub_id")) payload)) ∷ []

-- that something happened, and that each of its events is one about the subject
abbrev pub event_checks : Subject → Option Data → List (Check Fault)
event_checks subject payload =
    refused_unless InvalidRequest spot.Events (where_there has_member (option_and_then (member_of (codes "events")) payload))
    ∷ refused_unless InvalidRequest spot.Event (is_some (events_of subject (events_in payload)))
    ∷ []

-- the last checks of a payload
abbrev pub content_checks : Option (List ℕ) → Option Data → List (Check Fault)
content_checks wanted payload = stamp_checks wanted payload ++ (subject_checks payload ++ event_checks (subject_in payload) payload)

-- ---- the law

-- a payload with a text as issuer and a list of texts or a text as audience says claims exactly where its last checks
-- hold and they are the ones that are read
abbrev pub ReadsClaims : Type 0
ReadsClaims =
    (claims : Claims) (v : Data)
    → ClaimsAre claims v
    ↔ ((is_some (text_in (codes "iss") (Some v)) ≡ true) × (is_some (audience_in (Some v)) ≡ true)
    × (first_failing (content_checks None (Some v)) ≡ None) × (claims_in (Some v) ≡ claims))
