-- What a body publishes: an event about a subject under a name of its own. The name, the subject and the event are read in order, and
-- the first that is wrong is the fault.
use Rattle.std.specs.Prelude.{◌≡◌, ◌≤◌, ℕ, List, Option, Some, None, option_and_then, option_map, Result, Ok, Err, ok_or, codes, if◌then◌else◌}
use Rattle.std.specs.Result.{result_ok}
use Rattle.serde_json.specs.Data.{Data, Members, no_members, member, depth}
use Rattle.serde_json.specs.Find.{as_object}
use Rattle.serde_json.specs.Read.{max_depth}
use Rattle.uuid.specs.Text.{hyphenated_text, lower, parsed}
use Rattle.sig_json.specs.Json.{member_of, text_member}
use Rattle.sig_json.specs.Members.{is_object}
use Rattle.sig_json.specs.Order.{InOrder}
use Rattle.sig_subject.specs.declared.subject.Subject.{Subject}
use Rattle.sig_subject.specs.Reading.{subject_of}
use Rattle.sig_event.specs.declared.event.Event.{Event}
use Rattle.sig_event.specs.declared.news.News.{News}
use Rattle.sig_event.specs.Events.{event_of}
use Rattle.sig_event.specs.News.{IsProperNews, news}
use Rattle.sig_event.specs.Types.{is_published, type_of}
use Rattle.sig_terms.specs.declared.call.Call.{Call}
use Rattle.sig_terms.specs.declared.call.Call.TheVariants.{Publish}
use Rattle.sig_stream.specs.declared.publish_fault.PublishFault.{PublishFault}
use Rattle.sig_stream.specs.declared.publish_fault.PublishFault.TheVariants as fault
use Rattle.sig_stream.specs.Steps.{◌>>=◌}

-- the name of a publication: a text that spells a UUID (RFC 9562, section 4), kept with hyphens and in lower case
abbrev pub publish_id_of : Data → Option (List ℕ)
publish_id_of body = option_map (hyphenated_text lower) (option_and_then parsed (text_member (codes "publish_id") body))

-- whom it is about (RFC 9493)
abbrev pub subject_at : Data → Option Subject
subject_at d = result_ok (subject_of d)

abbrev pub subject_in : Data → Option Subject
subject_in body = option_and_then subject_at (member_of (codes "sub_id") body)

-- the event of a type that transmitters publish
abbrev pub published : Subject → List ℕ → Data → Option Event
published s uri payload = if is_published (type_of uri) then result_ok (event_of uri payload s) else None

-- the event of an object with exactly one member, which is its payload under its URI (RFC 8417, section 2.2)
abbrev pub one_event : Subject → Members → Option Event
one_event s no_members = None
one_event s (member uri payload no_members) = published s uri payload
one_event s (member uri payload (member k d ms)) = None

abbrev pub event_in : Subject → Data → Option Event
event_in s body = option_and_then (one_event s) (option_and_then as_object (member_of (codes "events") body))

-- the publication of a body that is an object
abbrev pub publication_by : Data → Result Call PublishFault
publication_by body = do
  id ← ok_or (publish_id_of body) (fault.Member (codes "publish_id"))
  subject ← ok_or (subject_in body) (fault.Member (codes "sub_id"))
  event ← ok_or (event_in subject body) (fault.Member (codes "events"))
  Ok (Publish id (news subject event))

-- the publication of a body, and the first fault where it is no object or a member is wrong
unfoldable pub publish_of : Data → Result Call PublishFault
publish_of body = if is_object body then publication_by body else Err (fault.Member (codes "body"))

-- ---- the law

-- a name with hyphens and in lower case
abbrev pub IsPublishId : List ℕ → Type 0
IsPublishId id = (uuid : List ℕ) × (parsed id ≡ Some uuid) × (id ≡ hyphenated_text lower uuid)

-- a publication under such a name, of news that may be published
abbrev pub IsProperPublication : Call → Type 0
IsProperPublication c = (id : List ℕ) × (n : News) × (c ≡ Publish id n) × IsPublishId id × IsProperNews n

-- what is read of a body in order that nests at most 127 deep, as any that a text spells, is a proper publication
abbrev pub ReadsProperPublications : Type 0
ReadsProperPublications = (body : Data) (c : Call) → InOrder body → depth body ≤ max_depth → publish_of body ≡ Ok c → IsProperPublication c
