-- What the bodies of requests say (OpenID Shared Signals Framework 1.0, section 8.1). Their members are read in order, and the first that
-- is missing or wrong is the place that is refused; members that nobody reads are passed over.
use Rattle.std.specs.Prelude.{ℕ, List, Bool, Option, Result, Ok, Err, ok_or, option_and_then, codes}
use Rattle.std.specs.Result.{result_ok}
use Rattle.serde_json.specs.Data.{Data}
use Rattle.serde_json.specs.Find.{as_str}
use Rattle.sig_json.specs.Json.{json_of, member_of, object_itself, text_member}
use Rattle.sig_json.specs.Listed.{listed}
use Rattle.sig_http.specs.declared.fault.HttpRefusal.{HttpRefusal}
use Rattle.sig_http.specs.declared.fault.HttpRefusal.TheVariants as refusal
use Rattle.sig_subject.specs.declared.subject.Subject.{Subject}
use Rattle.sig_subject.specs.Reading.{subject_of}
use Rattle.sig_event.specs.Status.{status_text, statuses}
use Rattle.sig_event.specs.declared.status.Status.{Status}
use Rattle.sig_terms.specs.declared.call.Call.{Call}
use Rattle.sig_terms.specs.declared.want.Want.{Want}
use Rattle.sig_stream.specs.Publications.{publish_of}
use Rattle.sig_stream.specs.Steps.{◌>>=◌, where_given}
use Rattle.sig_stream.specs.Wants.{want_of}
use Rattle.sig_stream.specs.declared.publish_fault.PublishFault.{PublishFault}
use Rattle.sig_stream.specs.declared.publish_fault.PublishFault.TheVariants as publish_fault
use Rattle.sig_stream.specs.declared.want_fault.WantFault.{WantFault}
use Rattle.sig_stream.specs.declared.want_fault.WantFault.TheVariants as want_fault
use Rattle.sig_txroutes.specs.declared.body.StatusSaid.{StatusSaid}

-- the fault seen by a function
abbrev pub refused_as : {T E F : Type 0} → (E → F) → Result T E → Result T F
refused_as f (Ok x) = Ok x
refused_as f (Err e) = Err (f e)

-- the object that a body spells
abbrev pub object_in : List ℕ → Result Data HttpRefusal
object_in bytes = ok_or (option_and_then object_itself (json_of bytes)) (refusal.Bad (codes "body"))

-- ---- members

abbrev pub text_at : List ℕ → Data → Result (List ℕ) HttpRefusal
text_at name d = ok_or (as_str d) (refusal.Bad name)

-- a text that has to be there, and one that may be there; one of another kind is wrong
abbrev pub text_in : List ℕ → Data → Result (List ℕ) HttpRefusal
text_in name body = ok_or (text_member name body) (refusal.Bad name)

abbrev pub optional_text : List ℕ → Data → Result (Option (List ℕ)) HttpRefusal
optional_text name body = where_given (text_at name) (member_of name body)

abbrev pub stream_in : Data → Result (List ℕ) HttpRefusal
stream_in body = text_in (codes "stream_id") body

-- a status (OpenID Shared Signals Framework 1.0, section 8.1.2)
abbrev pub status_in : Data → Result Status HttpRefusal
status_in body = ok_or (option_and_then (listed status_text statuses) (text_member (codes "status") body)) (refusal.Bad (codes "status"))

-- a subject (RFC 9493, section 3)
abbrev pub subject_at : Data → Option Subject
subject_at d = result_ok (subject_of d)

abbrev pub subject_in : Data → Result Subject HttpRefusal
subject_in body = ok_or (option_and_then subject_at (member_of (codes "subject") body)) (refusal.Bad (codes "subject"))

-- ---- whole bodies

-- the place at which a want is wrong
abbrev pub place_in_want : WantFault → HttpRefusal
place_in_want (want_fault.Member name) = refusal.Bad name
place_in_want want_fault.Method = refusal.Bad (codes "method")
place_in_want want_fault.Endpoint = refusal.Bad (codes "endpoint_url")
place_in_want want_fault.Memory = refusal.Memory

-- what is wanted of a stream (section 8.1.1); an `https` endpoint needs the gateway
abbrev pub want_in : Bool → Data → Result Want HttpRefusal
want_in gateway body = refused_as place_in_want (want_of gateway body)

abbrev pub place_in_publication : PublishFault → HttpRefusal
place_in_publication (publish_fault.Member name) = refusal.Bad name
place_in_publication publish_fault.Memory = refusal.Memory

-- what is published
abbrev pub publication_in : Data → Result Call HttpRefusal
publication_in body = refused_as place_in_publication (publish_of body)

-- the status to which a stream is set (section 8.1.2.2): `reason`, `status`, `stream_id`
abbrev pub status_said : Data → Result StatusSaid HttpRefusal
status_said body = do
  reason ← optional_text (codes "reason") body
  status ← status_in body
  stream ← stream_in body
  Ok (record { stream = stream; status = status; reason = reason })
