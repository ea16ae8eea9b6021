-- What a token may tell: news that are published, and of a stream itself a verification and a change of its status.
use Rattle.std.proofs.Common.{◌≡◌, ◌≤◌, ℕ, List, [], ◌∷◌, map, Option, Some, None, IfSome, IsUtf8, refl, arith}
use Rattle.std.specs.Prelude.{Contains, codes}
use Rattle.std.proofs.lemmas.List.Elements.{All-contains_itself}
use Rattle.serde_json.specs.Data.{Data, string, object, no_members, member, depth}
use Rattle.serde_json.specs.Read.{max_depth}
use Rattle.sig_json.specs.Order.{InOrder}
use Rattle.sig_subject.specs.declared.subject.Subject.{Subject}
use Rattle.sig_subject.specs.Subjects.{SubjectIs}
use Rattle.sig_subject.specs.Written.{IsProperSubject}
use Rattle.sig_subject.proofs.ProperRead as subjects
use Rattle.sig_subject.proofs.SubjectReading.{reads_subjects}
use Rattle.sig_event.specs.Events as events
use Rattle.sig_event.specs.News.{IsProperNews, told_data}
use Rattle.sig_event.specs.Status.{status_text, statuses}
use Rattle.sig_event.specs.Types.{uri_of_type}
use Rattle.sig_event.specs.declared.event.Event.{Event}
use Rattle.sig_event.specs.declared.event.Event.TheVariants as event
use Rattle.sig_event.specs.declared.event_type.EventType.TheVariants.{Verification, StreamUpdated}
use Rattle.sig_event.specs.declared.news.News.{News}
use Rattle.sig_event.specs.declared.status.Status.{Status}
use Rattle.sig_event.specs.declared.status.Status.TheVariants as status
use Rattle.sig_event.proofs.ProperEvents.{reads_proper}
use Rattle.sig_event.proofs.ReadsEvents.{reads_events}
use Rattle.sig_set.proofs.ProperClaims.{ascii}
use Rattle.sig_history.specs.Facts.{stream_subject, updated_news, verified_news}
use Rattle.sig_owing.proofs.UriTexts.{known_utf8, published_utf8}

-- a proper subject, a proper event about it whose URI is UTF-8, and both nest in a token no deeper than is read
pub record IsProperTold (n : News) : Type 0 where
  pub subject : IsProperSubject n.subject
  pub event : events.IsProperEvent n.event n.subject
  pub uri : IsUtf8 (events.uri_of n.event)
  pub nests : depth (told_data n) ≤ max_depth

pub published_told : (n : News) → IsProperNews n → IsProperTold n
published_told n proper = record {
  subject = proper.subject;
  event = proper.event;
  uri = published_utf8 n.event proper.type;
  nests = proper.nests;
}

-- ---- the subject of a stream

-- a text that isn't empty, in UTF-8
pub record IsFilledText (text : List ℕ) : Type 0 where
  pub utf8 : IsUtf8 text
  pub filled : text ≡ [] → ⊥

-- as it is written
abbrev subject_written : List ℕ → Data
subject_written name = object (member (codes "format") (string (codes "opaque")) (member (codes "id") (string name) no_members))

subject_in_order : (name : List ℕ) → IsUtf8 name → InOrder (subject_written name)
subject_in_order name utf8 = (ascii (codes "format") refl, ascii (codes "opaque") refl, (refl, tt), (ascii (codes "id") refl, utf8, tt, tt))

subject_is : (b : ℕ) (bs : List ℕ) → SubjectIs (stream_subject (b ∷ bs)) (subject_written (b ∷ bs))
subject_is b bs = (
  record {
    members = member (codes "format") (string (codes "opaque")) (member (codes "id") (string (b ∷ bs)) no_members);
    is = refl;
    named = refl;
    only = λ name h. h;
  },
  record { is = refl; filled = omega arith; rest = b ∷ bs; begins = refl },
)

pub proper_subject : (name : List ℕ) → IsFilledText name → IsProperSubject (stream_subject name)
proper_subject [] text = absurd (text.filled refl)
proper_subject (b ∷ bs) text =
    let shallow : depth (subject_written (b ∷ bs)) ≡ 1 = refl in
    subjects.reads_proper (subject_written (b ∷ bs)) (stream_subject (b ∷ bs)) (subject_in_order (b ∷ bs) text.utf8) (omega (arith, shallow))
    ((reads_subjects (stream_subject (b ∷ bs)) (subject_written (b ∷ bs))).0 (subject_is b bs))

-- ---- events about a stream

-- an event is proper that a payload in order says, where the payload nests no deeper than is read
said_proper : (e : Event) (v : Data) (s : Subject) → InOrder v → depth v ≤ max_depth → events.IsEvent e (events.uri_of e) v s → events.IsProperEvent e s
said_proper e v s order shallow is = (reads_proper (events.uri_of e) v s e order shallow ((reads_events e (events.uri_of e) v s).0 is)).0

-- ---- a verification

verified_is : (state : Option (List ℕ)) (s : Subject)
    → events.IsEvent (event.Verification state) (uri_of_type Verification) (events.payload_of (event.Verification state)) s
unfolding uri_of_type
verified_is None s = ((_, refl), (refl, ((refl, refl), tt)))
verified_is (Some state) s = ((_, refl), (refl, ((string state, refl, (state, refl, refl)), tt)))

verified_in_order : (state : Option (List ℕ)) → IfSome state IsUtf8 → InOrder (events.payload_of (event.Verification state))
verified_in_order None utf8 = tt
verified_in_order (Some state) utf8 = (ascii (codes "state") refl, utf8, tt, tt)

verified_flat : (state : Option (List ℕ)) → depth (events.payload_of (event.Verification state)) ≡ 1
verified_flat None = refl
verified_flat (Some state) = refl

verified_told_flat : (name : List ℕ) (state : Option (List ℕ)) → depth (told_data (verified_news name state)) ≡ 3
verified_told_flat name None = refl
verified_told_flat name (Some state) = refl

pub proper_verified : (name : List ℕ) (state : Option (List ℕ)) → IsFilledText name → IfSome state IsUtf8 → IsProperTold (verified_news name state)
proper_verified name state text utf8 = record {
  subject = proper_subject name text;
  event = said_proper (event.Verification state) (events.payload_of (event.Verification state)) (stream_subject name)
      (verified_in_order state utf8) (omega (arith, verified_flat state)) (verified_is state (stream_subject name));
  uri = known_utf8 Verification;
  nests = omega (arith, verified_told_flat name state);
}

-- ---- a change of status

status_listed : (s : Status) → Contains (map status_text statuses) (status_text s)
unfolding status_text statuses
status_listed status.Enabled = All-contains_itself (map status_text statuses) 0 [] (omega arith)
status_listed status.Paused = All-contains_itself (map status_text statuses) 1 [] (omega arith)
status_listed status.Disabled = All-contains_itself (map status_text statuses) 2 [] (omega arith)

status_utf8 : (s : Status) → IsUtf8 (status_text s)
unfolding status_text
status_utf8 status.Enabled = ascii (codes "enabled") refl
status_utf8 status.Paused = ascii (codes "paused") refl
status_utf8 status.Disabled = ascii (codes "disabled") refl

updated_is : (set : Status) (reason : Option (List ℕ)) (s : Subject)
    → events.IsEvent (event.StreamUpdated set reason) (uri_of_type StreamUpdated) (events.payload_of (event.StreamUpdated set reason)) s
unfolding uri_of_type
updated_is set None s =
    ((_, refl), (refl, ((string (status_text set), refl, (status_text set, refl, status_listed set, refl)), ((refl, refl), tt))))
updated_is set (Some reason) s =
    ((_, refl), (refl, ((string (status_text set), refl, (status_text set, refl, status_listed set, refl)), ((string reason, refl, (reason, refl, refl)), tt))))

updated_in_order : (set : Status) (reason : Option (List ℕ)) → IfSome reason IsUtf8 → InOrder (events.payload_of (event.StreamUpdated set reason))
updated_in_order set None utf8 = (ascii (codes "status") refl, status_utf8 set, tt, tt)
updated_in_order set (Some reason) utf8 =
    (ascii (codes "reason") refl, utf8, (refl, tt), (ascii (codes "status") refl, status_utf8 set, tt, tt))

updated_flat : (set : Status) (reason : Option (List ℕ)) → depth (events.payload_of (event.StreamUpdated set reason)) ≡ 1
updated_flat set None = refl
updated_flat set (Some reason) = refl

updated_told_flat : (name : List ℕ) (set : Status) (reason : Option (List ℕ)) → depth (told_data (updated_news name set reason)) ≡ 3
updated_told_flat name set None = refl
updated_told_flat name set (Some reason) = refl

pub proper_updated : (name : List ℕ) (set : Status) (reason : Option (List ℕ)) → IsFilledText name → IfSome reason IsUtf8
    → IsProperTold (updated_news name set reason)
proper_updated name set reason text utf8 = record {
  subject = proper_subject name text;
  event = said_proper (event.StreamUpdated set reason) (events.payload_of (event.StreamUpdated set reason)) (stream_subject name)
      (updated_in_order set reason utf8) (omega (arith, updated_flat set reason)) (updated_is set reason (stream_subject name));
  uri = known_utf8 StreamUpdated;
  nests = omega (arith, updated_told_flat name set reason);
}
