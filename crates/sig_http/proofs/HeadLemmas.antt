-- What the spans of a head say, and what kind of fault a head has.
use Rattle.std.proofs.Common.{◌≡◌, ◌≤◌, ℕ, Bool, true, false, List, [], ◌∷◌, length, take, Some, sym, ◌∙◌, ap, subst}
use Rattle.sig_json.specs.Checks.{check, first_failing}
use Rattle.sig_json.specs.declared.limits.TheConstants.{HEADER_FIELDS, REQUEST_BODY_BYTES, RESPONSE_BODY_BYTES}
use Rattle.std.specs.Prelude.{◌&&◌, not, nat_lt, codes}
use Rattle.httparse.specs.Grammar.{RequestHead, ResponseHead, status_code}
use Rattle.httparse.specs.Spans.{IsRequestAt, IsResponseAt, span_bytes}
use Rattle.httparse.specs.declared.spans.HeaderSpan.{HeaderSpan}
use Rattle.httparse.specs.declared.spans.RequestSpans.{RequestSpans}
use Rattle.httparse.specs.declared.spans.ResponseSpans.{ResponseSpans}
use Rattle.sig_http.specs.Faults.{OnJudged}
use Rattle.sig_http.specs.Fields.{fields_at, all_say}
use Rattle.sig_http.specs.Targets.{has_fragment}
use Rattle.sig_http.specs.Framing.{count_named, is_hosted, is_framed, fits, request_framing, response_framing, request_fault, response_fault}
use Rattle.sig_http.specs.Message.{FindsRequest, FindsResponse, requests, responses, request_fields, response_fields}
use Rattle.sig_http.specs.Heads.{RefusesHead}
use Rattle.sig_http.specs.declared.fault.HttpFault.{HttpFault}
use Rattle.sig_http.specs.declared.fault.HttpFault.TheVariants as faults

same_fault : (a b : HttpFault) → Some a ≡ Some b → a ≡ b
same_fault a b e = cc e

-- the first of two checks that fails has a fault that bytes decide
framing_decides : (fault : HttpFault) (X : Type 0) (framed within : Bool) → first_failing (check faults.Length framed ∷ check faults.BodyLong within ∷ []) ≡ Some fault → X → OnJudged fault X
framing_decides fault X true true e x = cc e
framing_decides fault X true false e x = subst (λ (f : HttpFault). OnJudged f X) (same_fault faults.BodyLong fault e) x
framing_decides fault X false within e x = subst (λ (f : HttpFault). OnJudged f X) (same_fault faults.Length fault e) x

-- and so has the first of six
request_decides : (fault : HttpFault) (X : Type 0) (whole hosted plain coded framed within : Bool)
    → first_failing (check faults.Head whole ∷ check faults.Host hosted ∷ check faults.Expect plain ∷ check faults.Coding coded ∷ check faults.Length framed ∷ check faults.BodyLong within ∷ []) ≡ Some fault → X → OnJudged fault X
request_decides fault X false hosted plain coded framed within e x = subst (λ (f : HttpFault). OnJudged f X) (same_fault faults.Head fault e) x
request_decides fault X true false plain coded framed within e x = subst (λ (f : HttpFault). OnJudged f X) (same_fault faults.Host fault e) x
request_decides fault X true true false coded framed within e x = subst (λ (f : HttpFault). OnJudged f X) (same_fault faults.Expect fault e) x
request_decides fault X true true true false framed within e x = subst (λ (f : HttpFault). OnJudged f X) (same_fault faults.Coding fault e) x
request_decides fault X true true true true framed within e x = framing_decides fault X framed within e x

-- the fields that the spans cover are those of the head
pub request_fields_at : (section : List ℕ) (headers front : List HeaderSpan) (spans : RequestSpans) (head : RequestHead) → IsRequestAt section headers spans head
    → front ≡ take spans.headers headers → fields_at section front ≡ request_fields head
request_fields_at section headers front spans head at e = ap (fields_at section) e ∙ at.fields

pub response_fields_at : (section : List ℕ) (headers front : List HeaderSpan) (spans : ResponseSpans) (head : ResponseHead) → IsResponseAt section headers spans head
    → front ≡ take spans.headers headers → fields_at section front ≡ response_fields head
response_fields_at section headers front spans head at e = ap (fields_at section) e ∙ at.fields

-- a fault of the fields that the spans cover is one of the head
pub request_refused : (section : List ℕ) (headers front : List HeaderSpan) (spans : RequestSpans) (fault : HttpFault)
    → (found : (head : RequestHead) × IsRequestAt section headers spans head × (length head.fields ≤ HEADER_FIELDS))
    → front ≡ take spans.headers headers → Some fault ≡ request_fault spans.version (span_bytes section spans.path) (fields_at section front) → RefusesHead FindsRequest requests section fault
request_refused section headers front spans fault found e f =
    let head = found.0 in
    let is : request_fault head.minor head.target (request_fields head) ≡ Some fault =
    ap (λ m. request_fault m head.target (request_fields head)) (sym found.1.version)
    ∙ ap (λ t. request_fault spans.version t (request_fields head)) (sym found.1.path)
    ∙ ap (request_fault spans.version (span_bytes section spans.path)) (sym (request_fields_at section headers front spans head found.1 e))
    ∙ sym f in
    let fields = request_fields head in
    request_decides fault _ (not (has_fragment head.target)) (is_hosted head.minor fields) (not (nat_lt 0 head.minor && nat_lt 0 (count_named (codes "expect") fields))) (all_say (codes "content-encoding") (codes "identity") fields) (is_framed fields) (fits REQUEST_BODY_BYTES (request_framing fields)) is
    (Some head, ((_, found.1.reads), found.2), is)

pub response_refused : (section : List ℕ) (headers front : List HeaderSpan) (spans : ResponseSpans) (fault : HttpFault)
    → (found : (head : ResponseHead) × IsResponseAt section headers spans head × (length head.fields ≤ HEADER_FIELDS))
    → front ≡ take spans.headers headers → Some fault ≡ response_fault spans.code (fields_at section front) → RefusesHead FindsResponse responses section fault
response_refused section headers front spans fault found e f =
    let head = found.0 in
    let is : response_fault (status_code head) (response_fields head) ≡ Some fault =
    ap (λ s. response_fault s (response_fields head)) (sym found.1.code) ∙ ap (response_fault spans.code) (sym (response_fields_at section headers front spans head found.1 e)) ∙ sym f in
    let fields = response_fields head in
    framing_decides fault _ (is_framed fields) (fits RESPONSE_BODY_BYTES (response_framing (status_code head) fields)) is
    (Some head, ((_, found.1.reads), found.2), is)
