-- How the body of a message ends, and the faults that the fields of a head decide (RFC 9112, section 6.3).
use Rattle.std.specs.Prelude.{ℕ, ◌==◌, nat_lt, nat_le, Bool, true, not, ◌&&◌, ◌||◌, List, [], ◌∷◌, if◌then◌else◌, Option, unwrap_or, codes}
use Rattle.std.specs.List.{count_by}
use Rattle.sig_json.specs.Checks.{Check, check, first_failing}
use Rattle.sig_json.specs.declared.limits.TheConstants.{REQUEST_BODY_BYTES, RESPONSE_BODY_BYTES}
use Rattle.sig_http.specs.Targets.{has_fragment}
use Rattle.sig_http.specs.Values.{number_of}
use Rattle.sig_http.specs.Fields.{is_named, first_value, all_say, lengths_are}
use Rattle.sig_http.specs.declared.fault.HttpFault.{HttpFault}
use Rattle.sig_http.specs.declared.fault.HttpFault.TheVariants as faults
use Rattle.sig_http.specs.declared.framing.Framing.{Framing}
use Rattle.sig_http.specs.declared.framing.Framing.TheVariants.{Length, Chunks, End}

-- how many fields have this name
abbrev pub count_named : List ℕ → List (List ℕ × List ℕ) → ℕ
count_named name fields = count_by (is_named name) fields

-- the value of the first field `content-length`, and nothing where there is none
abbrev pub length_field : List (List ℕ × List ℕ) → List ℕ
length_field fields = unwrap_or (first_value (codes "content-length") fields) []

-- its number
abbrev pub length_in : List (List ℕ × List ℕ) → ℕ
length_in fields = number_of (length_field fields)

-- the coding is `chunked` alone, and there is no length
abbrev pub is_chunked_alone : List (List ℕ × List ℕ) → Bool
is_chunked_alone fields =
    (count_named (codes "transfer-encoding") fields == 1)
    && all_say (codes "transfer-encoding") (codes "chunked") fields
    && (count_named (codes "content-length") fields == 0)

-- each `content-length` is a number, all are the same, and there is no other coding, nor that one beside a length
abbrev pub is_framed : List (List ℕ × List ℕ) → Bool
is_framed fields =
    lengths_are (length_field fields) fields
    && ((count_named (codes "transfer-encoding") fields == 0) || is_chunked_alone fields)

-- a request: by chunks where it is coded so, else by its length, which is 0 where none is said
abbrev pub request_framing : List (List ℕ × List ℕ) → Framing
request_framing fields =
    if nat_lt 0 (count_named (codes "transfer-encoding") fields) then Chunks else Length (length_in fields)

-- a status 1xx: an interim response, or a change of protocols (RFC 9110, section 15.2)
abbrev pub is_informational : ℕ → Bool
is_informational status = nat_le 100 status && nat_lt status 200

-- a response of this status has no body (RFC 9112, section 6.3)
abbrev pub is_bodiless : ℕ → Bool
is_bodiless status = (status == 204) || (status == 304) || is_informational status

-- a response: by its status it has no body; else by chunks, by its length, or to the end of the source
abbrev pub response_framing : ℕ → List (List ℕ × List ℕ) → Framing
response_framing status fields =
    if is_bodiless status then Length 0
    else (if nat_lt 0 (count_named (codes "transfer-encoding") fields) then Chunks
    else (if nat_lt 0 (count_named (codes "content-length") fields) then Length (length_in fields) else End))

-- a length is within the limit
abbrev pub fits : ℕ → Framing → Bool
fits limit (Length n) = nat_le n limit
fits limit Chunks = true
fits limit End = true

-- the framing is said, and within the limit
abbrev pub framing_checks : Bool → ℕ → Framing → List (Check HttpFault)
framing_checks framed limit framing = check faults.Length framed ∷ check faults.BodyLong (fits limit framing) ∷ []

abbrev pub framing_fault : Bool → ℕ → Framing → Option HttpFault
framing_fault framed limit framing = first_failing (framing_checks framed limit framing)

-- the host is said once, and a request of HTTP/1.0 may say none (RFC 9112, section 3.2)
abbrev pub is_hosted : ℕ → List (List ℕ × List ℕ) → Bool
is_hosted minor fields =
    let hosts = count_named (codes "host") fields in
    if hosts == 0 then minor == 0 else hosts == 1

-- what the version, the target and the fields of a request must meet, in this order; an expectation is passed over in HTTP/1.0 (RFC 9110, section 10.1.1)
abbrev pub request_checks : ℕ → List ℕ → List (List ℕ × List ℕ) → List (Check HttpFault)
request_checks minor target fields =
    check faults.Head (not (has_fragment target))
    ∷ check faults.Host (is_hosted minor fields)
    ∷ check faults.Expect (not (nat_lt 0 minor && nat_lt 0 (count_named (codes "expect") fields)))
    ∷ check faults.Coding (all_say (codes "content-encoding") (codes "identity") fields)
    ∷ framing_checks (is_framed fields) REQUEST_BODY_BYTES (request_framing fields)

-- the first that they don't meet
abbrev pub request_fault : ℕ → List ℕ → List (List ℕ × List ℕ) → Option HttpFault
request_fault minor target fields = first_failing (request_checks minor target fields)

-- the same of a response
abbrev pub response_fault : ℕ → List (List ℕ × List ℕ) → Option HttpFault
response_fault status fields = framing_fault (is_framed fields) RESPONSE_BODY_BYTES (response_framing status fields)
