-- News that are written alike are equal where their events are proper, and what is read of a body is proper news.
use Rattle.std.proofs.Common.{◌≡◌, ◌<◌, ◌≤◌, ◌∙◌, ◌&&◌, true, Some, Result, Ok, bytes_eq, codes, refl, sym, ap, subst, arith}
use Rattle.std.proofs.lemmas.Bool.{and_from, and_parts}
use Rattle.std.proofs.lemmas.Slice.Eq.{bytes_eq-Decides}
use Rattle.serde_json.specs.Data.{Data, depth}
use Rattle.serde_json.specs.Written.{compact_text}
use Rattle.sig_json.specs.Json.{json_of}
use Rattle.sig_subject.specs.declared.subject.Subject.{Subject}
use Rattle.sig_subject.specs.Matching.{is_identical}
use Rattle.sig_subject.proofs.Identity.{decides_identity}
use Rattle.sig_subject.proofs.ProperRead as subjects
use Rattle.sig_subject.proofs.SubjectReading.{reads_subjects}
use Rattle.sig_subject.proofs.WrittenBack.{written_back}
use Rattle.sig_subject.specs.Written.{subject_data}
use Rattle.sig_json.proofs.Spelled.{has_in_order}
use Rattle.sig_event.specs.declared.event.Event.{Event}
use Rattle.sig_event.specs.declared.event_fault.EventFault.{EventFault}
use Rattle.sig_event.specs.Events.{IsProperEvent, event_of, event_text, payload_of, uri_of}
use Rattle.sig_event.proofs.ReadsEvents.{reads_events}
use Rattle.sig_event.proofs.ProperEvents.{reads_proper, text_is_payload}
use Rattle.sig_event.specs.declared.news.News.{News}
use Rattle.sig_event.specs.News.{is_same_news, ReadsProperNews, SameNewsAreEqual}

-- ---- one text is of one event

some_same : (v w : Data) → Some v ≡ Some w → v ≡ w
some_same v w h = cc

ok_same : (e f : Event) → (let one : Result Event EventFault = Ok e in one ≡ Ok f) → e ≡ f
ok_same e f h = cc

same_event : (e f : Event) (s : Subject) → IsProperEvent e s → IsProperEvent f s → uri_of e ≡ uri_of f
    → compact_text (payload_of e) ≡ compact_text (payload_of f) → e ≡ f
same_event e f s (v, spelled, is) (w, also_spelled, also_is) uris texts =
    let values : v ≡ w = some_same v w (sym spelled ∙ ap json_of texts ∙ also_spelled) in
    let first : event_of (uri_of e) v s ≡ Ok e = (reads_events e (uri_of e) v s).0 is in
    let second : event_of (uri_of f) w s ≡ Ok f = (reads_events f (uri_of f) w s).0 also_is in
    ok_same e f (sym first ∙ ap (λ u. event_of u v s) uris ∙ ap (λ d. event_of (uri_of f) d s) values ∙ second)

-- ---- the law

by_parts : (a b : News) → a.subject ≡ b.subject → a.event ≡ b.event → a ≡ b
by_parts a b subjects events = rw (subjects, events) refl

forth : (a b : News) → IsProperEvent a.event a.subject → IsProperEvent b.event b.subject → is_same_news a b ≡ true → a ≡ b
forth a b proper also_proper same =
    let three = and_parts (is_identical a.subject b.subject && bytes_eq (uri_of a.event) (uri_of b.event)) (bytes_eq (event_text a.event) (event_text b.event)) same in
    let two = and_parts (is_identical a.subject b.subject) (bytes_eq (uri_of a.event) (uri_of b.event)) three.0 in
    let subjects : a.subject ≡ b.subject = (decides_identity a.subject b.subject).0 two.0 in
    let uris : uri_of a.event ≡ uri_of b.event = (bytes_eq-Decides (uri_of a.event) (uri_of b.event)).0 two.1 in
    let texts : event_text a.event ≡ event_text b.event = (bytes_eq-Decides (event_text a.event) (event_text b.event)).0 three.1 in
    by_parts a b subjects (same_event a.event b.event b.subject (subst (IsProperEvent a.event) subjects proper) also_proper uris
    (sym (text_is_payload a.event a.subject proper) ∙ texts ∙ text_is_payload b.event b.subject also_proper))

same_self : (a : News) → is_same_news a a ≡ true
same_self a =
    and_from (is_identical a.subject a.subject && bytes_eq (uri_of a.event) (uri_of a.event)) (bytes_eq (event_text a.event) (event_text a.event))
    (and_from (is_identical a.subject a.subject) (bytes_eq (uri_of a.event) (uri_of a.event)) ((decides_identity a.subject a.subject).1 refl) ((bytes_eq-Decides (uri_of a.event) (uri_of a.event)).1 refl))
    ((bytes_eq-Decides (event_text a.event) (event_text a.event)).1 refl)

pub same_news_equal : SameNewsAreEqual
same_news_equal a b proper also_proper = (forth a b proper also_proper, λ equal. ap (is_same_news a) (sym equal) ∙ same_self a)

pub reads_proper_news : ReadsProperNews
reads_proper_news body uri sub_id payload s e stands subject_read event_read published =
    let at_subject = has_in_order (codes "sub_id") body sub_id stands.order stands.subject in
    let at_events = has_in_order (codes "events") body stands.events stands.order stands.listed in
    let at_payload = has_in_order uri stands.events payload at_events.0 stands.event in
    let deep = stands.shallow in
    let low_subject : depth sub_id < depth body = at_subject.1 in
    let low_events : depth stands.events < depth body = at_events.1 in
    let low_payload : depth payload < depth stands.events = at_payload.1 in
    let is = (reads_subjects s sub_id).1 subject_read in
    let same : depth (subject_data s) ≡ depth sub_id = ap depth (written_back s sub_id at_subject.0 (omega arith) is) in
    let read = reads_proper uri payload s e at_payload.0 (omega arith) event_read in
    let low : depth (payload_of e) ≤ depth payload = read.1 in
    record {
      subject = subjects.reads_proper sub_id s at_subject.0 (omega arith) subject_read;
      event = read.0;
      type = published;
      nests = omega arith;
    }
