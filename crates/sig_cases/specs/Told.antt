-- What lines are answered, by what the calls answer.
use Rattle.std.specs.Prelude.{ℕ, List, [], ◌++◌, Bool, Option, Some, None, Result, Ok, Err, codes}
use Rattle.serde_json.specs.Data.{Data}
use Rattle.sig_json.specs.declared.members.PayloadFault.{PayloadFault}
use Rattle.sig_json.specs.declared.members.PayloadFault.TheVariants as payload
use Rattle.sig_jws.specs.declared.compact.Compact.{Compact}
use Rattle.sig_jws.specs.declared.compact.SplitFault.{SplitFault}
use Rattle.sig_jws.specs.declared.compact.SplitFault.TheVariants as split
use Rattle.sig_subject.specs.Matching.{is_identical, is_matching, is_covering}
use Rattle.sig_subject.specs.Reading.{subject_of}
use Rattle.sig_subject.specs.Written.{subject_data}
use Rattle.sig_subject.specs.declared.subject.Subject.{Subject}
use Rattle.sig_subject.specs.declared.subject_fault.SubjectFault.{SubjectFault}
use Rattle.sig_subject.specs.declared.subject_fault.SubjectFault.TheVariants as subject
use Rattle.sig_event.specs.Events.{payload_of}
use Rattle.sig_event.specs.declared.event.Event.{Event}
use Rattle.sig_event.specs.declared.event_fault.EventFault.{EventFault}
use Rattle.sig_event.specs.declared.event_fault.EventFault.TheVariants as event
use Rattle.sig_set.specs.Spelled.{code_text, spot_text}
use Rattle.sig_set.specs.Written.{payload_text_of}
use Rattle.sig_event.specs.declared.claims.Claims.{Claims}
use Rattle.sig_set.specs.declared.refusal.Refusal.{Refusal}
use Rattle.sig_set.specs.declared.refusal.Refusal.TheVariants as refusal
use Rattle.sig_set.specs.declared.reading.ClaimsFault.{ClaimsFault}
use Rattle.sig_set.specs.declared.reading.ClaimsFault.TheVariants as reading
use Rattle.sig_lines.specs.Spelled.{said, named, valued, encoded}
use Rattle.sig_stream.specs.declared.want_fault.WantFault.{WantFault}
use Rattle.sig_stream.specs.declared.want_fault.WantFault.TheVariants as want
use Rattle.sig_http.specs.declared.fault.HttpFault.{HttpFault}
use Rattle.sig_http.specs.declared.fault.HttpFault.TheVariants as http
use Rattle.sig_cases.specs.declared.subjects.Relation.{Relation}
use Rattle.sig_cases.specs.declared.subjects.Relation.TheVariants as relation

-- of the value that a text spells
abbrev pub json_told : Option Data → List ℕ
json_told None = codes "not-json"
json_told (Some d) = valued (codes "value") d

-- of a text in compact form (RFC 7515, section 7.1)
abbrev pub split_told : Result Compact SplitFault → List ℕ
split_told (Ok c) = said (codes "ok") (encoded c.header ++ codes " " ++ encoded c.payload ++ codes " " ++ encoded c.mac)
split_told (Err split.Dots) = codes "dots"
split_told (Err split.Header) = codes "header"
split_told (Err split.Payload) = codes "payload"
split_told (Err split.Mac) = codes "mac"
split_told (Err split.Memory) = []

-- of a value as a subject, or its first check that fails (RFC 9493, section 3)
abbrev pub read_subject : Result Subject SubjectFault → List ℕ
read_subject (Ok s) = valued (codes "ok") (subject_data s)
read_subject (Err subject.Format) = codes "format"
read_subject (Err (subject.Member name)) = named (codes "member") name
read_subject (Err subject.Empty) = codes "empty"
read_subject (Err subject.Nested) = codes "nested"
read_subject (Err subject.Fraction) = codes "fraction"
read_subject (Err subject.Memory) = []

-- of a text as a subject
abbrev pub subject_told : Option Data → List ℕ
subject_told None = codes "not-json"
subject_told (Some d) = read_subject (subject_of d)

-- whether a relation holds of two subjects
abbrev pub holds : Relation → Subject → Subject → Bool
holds relation.Identical s r = is_identical s r
holds relation.Matches s r = is_matching s r
holds relation.Covers s r = is_covering s r

-- of a payload's first check that fails
abbrev pub payload_refused : PayloadFault → List ℕ
payload_refused (payload.Missing name) = named (codes "missing") name
payload_refused (payload.Kind name) = named (codes "kind") name
payload_refused (payload.Value name) = named (codes "value") name
payload_refused (payload.Fraction name) = named (codes "fraction") name
payload_refused payload.Memory = []

-- of an event, or its first check that fails
abbrev pub event_told : Result Event EventFault → List ℕ
event_told (Ok e) = valued (codes "ok") (payload_of e)
event_told (Err event.NotObject) = codes "not-object"
event_told (Err (event.Payload f)) = payload_refused f
event_told (Err event.Subject) = codes "subject"
event_told (Err event.Memory) = []

-- of a judgement (RFC 8417, section 2; RFC 8935, section 2.4)
abbrev pub judgement_told : Result Claims Refusal → List ℕ
judgement_told (Ok c) = said (codes "valid") (payload_text_of c)
judgement_told (Err (refusal.Coded code spot)) = said (code_text code) (spot_text spot)
judgement_told (Err refusal.Memory) = []

-- of claims that are read without a judgement
abbrev pub claims_told : Result Claims ClaimsFault → List ℕ
claims_told (Ok c) = said (codes "ok") (payload_text_of c)
claims_told (Err (reading.Bad spot)) = said (codes "bad") (spot_text spot)
claims_told (Err reading.Memory) = []

-- of a body that wants nothing that may be wanted (OpenID Shared Signals Framework 1.0, section 8.1.1)
abbrev pub want_refused : WantFault → List ℕ
want_refused (want.Member name) = named (codes "member") name
want_refused want.Method = codes "method"
want_refused want.Endpoint = codes "endpoint"
want_refused want.Memory = []

-- of bytes that are no message (RFC 9112)
abbrev pub message_refused : HttpFault → List ℕ
message_refused http.Head = codes "head"
message_refused http.Host = codes "host"
message_refused http.HeadLong = codes "head-long"
message_refused http.Length = codes "length"
message_refused http.BodyLong = codes "body-long"
message_refused http.Coding = codes "coding"
message_refused http.Expect = codes "expect"
message_refused http.Cut = codes "cut"
message_refused http.Link = codes "link"
message_refused http.Memory = []
