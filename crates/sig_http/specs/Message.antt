-- What bytes decide of an HTTP/1 message (RFC 9112). The bytes are all that a source gives to its end.
use Rattle.std.specs.Prelude.{◌≡◌, ℕ, ◌<◌, ◌≤◌, ◌==◌, nat_le, Bool, ◌||◌, List, [], ◌++◌, map, take, drop, length, if◌then◌else◌, Option, Some, None, option_and_then, codes}
use Rattle.std.specs.List.{before_first, after_first}
use Rattle.std.specs.Str.{is_utf8}
use Rattle.sig_json.specs.declared.limits.TheConstants.{HEADER_FIELDS, REQUEST_BODY_BYTES, RESPONSE_BODY_BYTES}
use Rattle.httparse.specs.Grammar.{RequestHead, ResponseHead, ReadsRequest, ReadsResponse, status_code}
use Rattle.httparse.specs.Spans.{name_and_value}
use Rattle.sig_http.specs.Section.{start, section_from}
use Rattle.sig_http.specs.Targets.{path_in}
use Rattle.sig_http.specs.Values.{after_bearer}
use Rattle.sig_http.specs.Faults.{OnFault}
use Rattle.sig_http.specs.Fields.{first_value, closes}
use Rattle.sig_http.specs.Framing.{request_fault, request_framing, response_fault, response_framing}
use Rattle.sig_http.specs.Chunks.{Chunked, Stands, Holds, Fails, chunks_from, first}
use Rattle.sig_http.specs.declared.section.Section.{Section}
use Rattle.sig_http.specs.declared.section.Section.TheVariants.{Open, Ended, Long}
use Rattle.sig_http.specs.declared.framing.Framing.{Framing}
use Rattle.sig_http.specs.declared.framing.Framing.TheVariants as framings
use Rattle.sig_http.specs.declared.fault.HttpFault.{HttpFault}
use Rattle.sig_http.specs.declared.fault.HttpFault.TheVariants as faults
use Rattle.sig_http.specs.declared.message.Request.{Request}
use Rattle.sig_http.specs.declared.message.Response.{Response}
use Rattle.sig_http.specs.declared.message.Got.{Got}
use Rattle.sig_http.specs.declared.message.Got.TheVariants as gots

-- ---- the head

-- no head of so many fields at most is a prefix of the section, or this one is
abbrev pub FindsRequest : List ℕ → Option RequestHead → Type 0
FindsRequest section None = (head : RequestHead) (rest : List ℕ) → ReadsRequest section head rest → HEADER_FIELDS < length head.fields
FindsRequest section (Some head) = ((rest : List ℕ) × ReadsRequest section head rest) × (length head.fields ≤ HEADER_FIELDS)

abbrev pub FindsResponse : List ℕ → Option ResponseHead → Type 0
FindsResponse section None = (head : ResponseHead) (rest : List ℕ) → ReadsResponse section head rest → HEADER_FIELDS < length head.fields
FindsResponse section (Some head) = ((rest : List ℕ) × ReadsResponse section head rest) × (length head.fields ≤ HEADER_FIELDS)

-- the fields of a head
abbrev pub request_fields : RequestHead → List (List ℕ × List ℕ)
request_fields head = map name_and_value head.fields

abbrev pub response_fields : ResponseHead → List (List ℕ × List ℕ)
response_fields head = map name_and_value head.fields

-- the bytes, where they are UTF-8
abbrev pub text_of : List ℕ → Option (List ℕ)
text_of bytes = if is_utf8 bytes then Some bytes else None

-- the text after `Bearer ` of a value
abbrev pub bearer_of : Option (List ℕ) → Option (List ℕ)
bearer_of value = option_and_then text_of (option_and_then after_bearer value)

-- the byte `?`, at which the query of a target begins (RFC 9112, section 3.2.1)
abbrev pub question_mark : ℕ
question_mark = 63

abbrev pub is_question_mark : ℕ → Bool
is_question_mark b = b == question_mark

-- the link closes after a message of HTTP/1.0, and after one that says so (RFC 9112, section 9.6)
abbrev pub is_closing : ℕ → List (List ℕ × List ℕ) → Bool
is_closing minor fields = (minor == 0) || closes fields

-- the request with these parts
abbrev pub request_from : List ℕ → List ℕ → ℕ → List (List ℕ × List ℕ) → List ℕ → Request
request_from method target minor fields content = record {
  method = method;
  path = path_in (before_first is_question_mark target);
  query = after_first is_question_mark target;
  bearer = bearer_of (first_value (codes "authorization") fields);
  close = is_closing minor fields;
  body = content;
}

-- the request of a head with this body
abbrev pub request_of : RequestHead → List ℕ → Request
request_of head content = request_from head.method head.target head.minor (request_fields head) content

-- the response of a head with this body
abbrev pub response_of : ResponseHead → List ℕ → Response
response_of head content = record {
  status = status_code head;
  headers = [];
  close = is_closing head.minor (response_fields head);
  body = content;
}

-- ---- what the bytes decide

-- this message, after which those bytes stand; this fault; or neither, since the message hasn't ended
pub data Outcome (M : Type 0) : Type 0 where
  Whole : M → List ℕ → Outcome M
  Broken : HttpFault → Outcome M
  Unfinished : Outcome M

-- the content of a body, as a part of this message
abbrev pub as_body : {M : Type 0} → (List ℕ → M) → Outcome (List ℕ) → Outcome M
as_body message (Whole content rest) = Whole (message content) rest
as_body message (Broken fault) = Broken fault
as_body message Unfinished = Unfinished

-- a chunked body
abbrev pub outcome_of : Chunked → Outcome (List ℕ)
outcome_of (Stands standing content) = Unfinished
outcome_of (Holds content rest) = Whole content rest
outcome_of (Fails fault) = Broken fault

-- the body at the start of these bytes, which the source ends (RFC 9112, section 6.3)
abbrev pub body_of : ℕ → Framing → List ℕ → Outcome (List ℕ)
body_of limit (framings.Length n) bytes = if nat_le n (length bytes) then Whole (take n bytes) (drop n bytes) else Unfinished
body_of limit framings.Chunks bytes = outcome_of (chunks_from limit (first limit) [] bytes)
body_of limit framings.End bytes = if nat_le (length bytes) limit then Whole bytes [] else Broken faults.BodyLong

-- after a head section: a fault of the head, or the body
abbrev pub after_head : {M : Type 0} → Option HttpFault → ℕ → Framing → (List ℕ → M) → List ℕ → Outcome M
after_head (Some fault) limit framing message bytes = Broken fault
after_head None limit framing message bytes = as_body message (body_of limit framing bytes)

-- what messages of one kind have: a limit of their bodies, and of each head its fault, its framing and the message with a body
pub record Kind (M H : Type 0) : Type 0 where
  pub limit : ℕ
  pub fault : H → Option HttpFault
  pub framing : H → Framing
  pub message : H → List ℕ → M

-- after a section with this head, or with none
abbrev pub after_section : {M H : Type 0} → Kind M H → Option H → List ℕ → Outcome M
after_section kind None bytes = Broken faults.Head
after_section kind (Some head) bytes = after_head (kind.fault head) kind.limit (kind.framing head) (kind.message head) bytes

-- the head section decides first
abbrev pub DecidesBy : {M H : Type 0} → (List ℕ → Option H → Type 0) → Kind M H → List ℕ → Outcome M → Section → Type 0
DecidesBy Finds kind bytes outcome (Open scan) = outcome ≡ Unfinished
DecidesBy Finds kind bytes outcome Long = outcome ≡ Broken faults.HeadLong
DecidesBy {H = H} Finds kind bytes outcome (Ended n) = (found : Option H) × Finds (take n bytes) found × (outcome ≡ after_section kind found (drop n bytes))

abbrev pub requests : Kind Request RequestHead
requests = record {
  limit = REQUEST_BODY_BYTES;
  fault = λ head. request_fault head.minor head.target (request_fields head);
  framing = λ head. request_framing (request_fields head);
  message = request_of;
}

abbrev pub responses : Kind Response ResponseHead
responses = record {
  limit = RESPONSE_BODY_BYTES;
  fault = λ head. response_fault (status_code head) (response_fields head);
  framing = λ head. response_framing (status_code head) (response_fields head);
  message = response_of;
}

-- the bytes decide this of the request, or of the response, at their start
abbrev pub DecidesRequest : List ℕ → Outcome Request → Type 0
DecidesRequest bytes outcome = DecidesBy FindsRequest requests bytes outcome (section_from start bytes)

abbrev pub DecidesResponse : List ℕ → Outcome Response → Type 0
DecidesResponse bytes outcome = DecidesBy FindsResponse responses bytes outcome (section_from start bytes)

-- ---- what a reader answers

-- what was got of these bytes is the request that they decide, and the bytes after it are kept or left; the end comes where there are none
abbrev pub Reads : List ℕ → Got → List ℕ → Option (List ℕ) → Type 0
Reads bytes got kept None = ⊥
Reads bytes (gots.Request m) kept (Some left) = DecidesRequest bytes (Whole m (kept ++ left))
Reads bytes gots.End kept (Some left) = (bytes ≡ []) × (kept ≡ []) × (left ≡ [])

abbrev pub ReadsResponseOf : List ℕ → Response → List ℕ → Option (List ℕ) → Type 0
ReadsResponseOf bytes m kept None = ⊥
ReadsResponseOf bytes m kept (Some left) = DecidesResponse bytes (Whole m (kept ++ left))

-- a refusal is the fault that the bytes decide; a message is cut where they decide nothing, and there are some
abbrev pub Refuses : List ℕ → HttpFault → Type 0
Refuses bytes fault = OnFault fault ((0 < length bytes) × DecidesRequest bytes Unfinished) (DecidesRequest bytes (Broken fault))

-- the same of a response, which is cut also where there are no bytes
abbrev pub RefusesResponse : List ℕ → HttpFault → Type 0
RefusesResponse bytes fault = OnFault fault (DecidesResponse bytes Unfinished) (DecidesResponse bytes (Broken fault))
