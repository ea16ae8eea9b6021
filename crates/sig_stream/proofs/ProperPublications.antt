-- What is read of the body of a publication is proper.
use Rattle.std.proofs.Common.{◌≡◌, ◌∙◌, ap, subst, List, ℕ, Bool, true, false, Option, Some, None, refl, ◌≤◌}
use Rattle.std.specs.Prelude.{Result, Ok, Err, ok_or, option_and_then, codes, if◌then◌else◌}
use Rattle.std.specs.Result.{result_ok}
use Rattle.serde_json.specs.Data.{Data, null, boolean, number, string, array, object, Members, no_members, member, depth}
use Rattle.serde_json.specs.Find.{as_object}
use Rattle.serde_json.proofs.Views.{get_member-put}
use Rattle.serde_json.specs.Read.{max_depth}
use Rattle.sig_json.specs.Json.{member_of}
use Rattle.sig_json.specs.Members.{is_object}
use Rattle.sig_json.specs.Order.{InOrder}
use Rattle.sig_subject.specs.declared.subject.Subject.{Subject}
use Rattle.sig_subject.specs.Reading.{subject_of}
use Rattle.sig_event.specs.declared.event.Event.{Event}
use Rattle.sig_event.specs.Events.{event_of, type_of_event}
use Rattle.sig_event.specs.News.{StandsIn, news}
use Rattle.sig_event.specs.Types.{is_published, type_of}
use Rattle.sig_event.proofs.SameNews.{reads_proper_news}
use Rattle.sig_terms.specs.declared.call.Call.{Call}
use Rattle.sig_terms.specs.declared.call.Call.TheVariants.{Publish}
use Rattle.sig_stream.specs.declared.publish_fault.PublishFault.{PublishFault}
use Rattle.sig_stream.specs.declared.publish_fault.PublishFault.TheVariants as fault
use Rattle.sig_stream.specs.Publications.{IsProperPublication, ReadsProperPublications, event_in, one_event, publication_by, publish_id_of, publish_of, published, subject_at, subject_in}
use Rattle.sig_stream.specs.Steps.{◌>>=◌}
use Rattle.sig_stream.proofs.EventTypes.{read_published}
use Rattle.sig_stream.proofs.PublishIds.{is_publish_id}

-- ---- the steps that gave a publication

-- a step that gave something had it
stepped : {A B : Type 0} (o : Option A) (f : PublishFault) (g : A → Result B PublishFault) (y : B) → (ok_or o f >>= g) ≡ Ok y → (x : A) × (o ≡ Some x) × (g x ≡ Ok y)
stepped None f g y h = cc
stepped (Some x) f g y h = (x, refl, h)

ok_some : {T E : Type 0} (r : Result T E) (x : T) → result_ok r ≡ Some x → r ≡ Ok x
ok_some (Ok y) x h = cc
ok_some (Err e) x h = cc

then_some : {A B : Type 0} (o : Option A) (f : A → Option B) (y : B) → option_and_then f o ≡ Some y → (x : A) × (o ≡ Some x) × (f x ≡ Some y)
then_some None f y h = cc
then_some (Some x) f y h = (x, refl, h)

object_some : (d : Data) (ms : Members) → as_object d ≡ Some ms → d ≡ object ms
object_some null ms h = cc
object_some (boolean b) ms h = cc
object_some (number n) ms h = cc
object_some (string s) ms h = cc
object_some (array ds) ms h = cc
object_some (object ns) ms h = cc

-- ---- the event

-- the one member of an object with one
only_member : (uri : List ℕ) (payload : Data) → member_of uri (object (member uri payload no_members)) ≡ Some payload
only_member uri payload = get_member-put uri payload no_members

-- what an object with one event has
record HasEvent (s : Subject) (e : Event) (events : Data) : Type 0 where
  uri : List ℕ
  payload : Data
  stands : member_of uri events ≡ Some payload
  type : is_published (type_of uri) ≡ true
  is : event_of uri payload s ≡ Ok e

published_is : (s : Subject) (uri : List ℕ) (payload : Data) (e : Event) → published s uri payload ≡ Some e → (is_published (type_of uri) ≡ true) × (event_of uri payload s ≡ Ok e)
published_is s uri payload e h = at (is_published (type_of uri)) h
  where
    at : (t : Bool) → ◌≡◌ {A = Option Event} (if t then result_ok (event_of uri payload s) else None) (Some e) → (t ≡ true) × (event_of uri payload s ≡ Ok e)
    at true h = (refl, ok_some (event_of uri payload s) e h)
    at false h = cc

event_is : (s : Subject) (e : Event) (ms : Members) → one_event s ms ≡ Some e → HasEvent s e (object ms)
event_is s e no_members h = cc
event_is s e (member uri payload no_members) h =
    let p = published_is s uri payload e h in
    record { uri = uri; payload = payload; stands = only_member uri payload; type = p.0; is = p.1 }
event_is s e (member uri payload (member k d ms)) h = cc

-- ---- the law

proper : (body : Data) (id : List ℕ) (s : Subject) (e : Event) → InOrder body → depth body ≤ max_depth
    → publish_id_of body ≡ Some id → subject_in body ≡ Some s → event_in s body ≡ Some e → IsProperPublication (Publish id (news s e))
proper body id s e order shallow named about told =
    let sub_id = then_some (member_of (codes "sub_id") body) subject_at s about in
    let members = then_some (option_and_then as_object (member_of (codes "events") body)) (one_event s) e told in
    let events = then_some (member_of (codes "events") body) as_object members.0 members.1 in
    let has = event_is s e members.0 members.2 in
    let whole : events.0 ≡ object members.0 = object_some events.0 members.0 events.2 in
    let stands : StandsIn body has.uri sub_id.0 has.payload =
    record {
      order = order;
      shallow = shallow;
      subject = sub_id.1;
      events = events.0;
      listed = events.1;
      event = ap (member_of has.uri) whole ∙ has.stands;
    } in
    let type : is_published (type_of_event e) ≡ true = read_published has.uri has.payload s e has.is has.type in
    let news_proper = reads_proper_news body has.uri sub_id.0 has.payload s e stands (ok_some (subject_of sub_id.0) s sub_id.2) has.is type in
    (id, news s e, refl, is_publish_id body id named, news_proper)

made : (x y : Call) → ◌≡◌ {A = Result Call PublishFault} (Ok x) (Ok y) → x ≡ y
made x y h = cc

pub reads_proper_publications : ReadsProperPublications
unfolding publish_of
reads_proper_publications body c order shallow h = at (is_object body) h
  where
    at : (t : Bool) → ◌≡◌ {A = Result Call PublishFault} (if t then publication_by body else Err (fault.Member (codes "body"))) (Ok c) → IsProperPublication c
    at false h = cc
    at true h =
        let id = stepped (publish_id_of body) (fault.Member (codes "publish_id")) _ c h in
        let subject = stepped (subject_in body) (fault.Member (codes "sub_id")) _ c id.2 in
        let event = stepped (event_in subject.0 body) (fault.Member (codes "events")) _ c subject.2 in
        subst IsProperPublication (made _ c event.2) (proper body id.0 subject.0 event.0 order shallow id.1 subject.1 event.1)
