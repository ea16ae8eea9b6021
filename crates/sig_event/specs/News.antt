-- What a publication says and a token tells: an event about a subject (RFC 8417, section 1.2).
use Rattle.std.specs.Prelude.{◌≡◌, ◌↔◌, ◌≤◌, ◌&&◌, ℕ, List, Bool, true, Some, Ok, bytes_eq, codes}
use Rattle.serde_json.specs.Data.{Data, object, no_members, member, depth}
use Rattle.serde_json.specs.Read.{max_depth}
use Rattle.sig_json.specs.Json.{member_of}
use Rattle.sig_json.specs.Order.{InOrder}
use Rattle.sig_subject.specs.Matching.{is_identical}
use Rattle.sig_subject.specs.Reading.{subject_of}
use Rattle.sig_subject.specs.Written.{IsProperSubject, subject_data}
use Rattle.sig_subject.specs.declared.subject.Subject.{Subject}
use Rattle.sig_event.specs.Events.{IsProperEvent, event_of, event_text, payload_of, type_of_event, uri_of}
use Rattle.sig_event.specs.Types.{is_published}
use Rattle.sig_event.specs.declared.event.Event.{Event}
use Rattle.sig_event.specs.declared.news.News.{News}

-- whom it is about, and what happened
abbrev pub news : Subject → Event → News
news subject event = record { subject = subject; event = event }

-- the subject and the events of a payload, as one object (RFC 8417, section 2.2; Shared Signals Framework 1.0, section 4)
abbrev pub told_data : News → Data
told_data n = object
    (member (codes "events") (object (member (uri_of n.event) (payload_of n.event) no_members))
    (member (codes "sub_id") (subject_data n.subject) no_members))

-- news that may be published: a proper subject, a proper event about it of a type that is published, and both nest in a
-- token no deeper than is read
pub record IsProperNews (n : News) : Type 0 where
  pub subject : IsProperSubject n.subject
  pub event : IsProperEvent n.event n.subject
  pub type : is_published (type_of_event n.event) ≡ true
  pub nests : depth (told_data n) ≤ max_depth

-- identical subjects, and events of one URI with one text
abbrev pub is_same_news : News → News → Bool
is_same_news a b =
    is_identical a.subject b.subject && bytes_eq (uri_of a.event) (uri_of b.event) && bytes_eq (event_text a.event) (event_text b.event)

-- news with proper events are the same exactly where they are equal: one event about one subject
abbrev pub SameNewsAreEqual : Type 0
SameNewsAreEqual = (a b : News) → IsProperEvent a.event a.subject → IsProperEvent b.event b.subject → (is_same_news a b ≡ true) ↔ (a ≡ b)

-- where they stand in a body: a subject as its member `sub_id`, and a payload under its URI in its member `events`
pub record StandsIn (body : Data) (uri : List ℕ) (sub_id payload : Data) : Type 0 where
  pub order : InOrder body
  pub shallow : depth body ≤ max_depth
  pub subject : member_of (codes "sub_id") body ≡ Some sub_id
  pub events : Data
  pub listed : member_of (codes "events") body ≡ Some events
  pub event : member_of uri events ≡ Some payload

-- what is read of a body is proper news, where its type is published
abbrev pub ReadsProperNews : Type 0
ReadsProperNews =
    (body : Data) (uri : List ℕ) (sub_id payload : Data) (s : Subject) (e : Event)
    → StandsIn body uri sub_id payload → subject_of sub_id ≡ Ok s → event_of uri payload s ≡ Ok e → is_published (type_of_event e) ≡ true
    → IsProperNews (news s e)
