-- Which messages are read back from the spelling in which they are written, and what is read then (RFC 9112).
use Rattle.std.specs.Prelude.{◌≡◌, ℕ, ◌+◌, ◌<◌, ◌≤◌, ◌^◌, ◌==◌, Bool, true, false, List, [], ◌∷◌, ◌++◌, All, length, if◌then◌else◌, None, IfSome, IsUtf8, option_map, codes}
use Rattle.std.specs.List.{list_any}
use Rattle.std.specs.Str.{str_eq_ignore_ascii_case}
use Rattle.sig_json.specs.declared.limits.TheConstants.{HEAD_BYTES, HEADER_FIELDS, REQUEST_BODY_BYTES, RESPONSE_BODY_BYTES}
use Rattle.httparse.specs.Grammar.{AllPass, IsToken, is_uri_byte, is_value_byte, trim_ows}
use Rattle.http.specs.StatusCode.{IsStatusCode}
use Rattle.sig_outside.specs.declared.place.Place.{Place}
use Rattle.sig_http.specs.Framing.{is_bodiless}
use Rattle.sig_http.specs.Message.{bearer_of, is_question_mark}
use Rattle.sig_http.specs.Targets.{after_scheme, has_fragment}
use Rattle.sig_http.specs.Spelling.{query_part, request_spelling, response_spelling}
use Rattle.sig_http.specs.declared.message.Header.{Header}
use Rattle.sig_http.specs.declared.message.Request.{Request}
use Rattle.sig_http.specs.declared.message.Response.{Response}

-- ---- a request

-- the target of a request (RFC 9112, section 3.2)
abbrev pub target_of : Request → List ℕ
target_of request = request.path ++ query_part request.query

-- each part is of its class, so that no byte of it ends it early, and head and body are within the limits
pub record IsReadableRequest (place : Place) (request : Request) (content_type : List ℕ) (language : Bool) : Type 0 where
  pub method : IsToken request.method
  pub target : (0 < length (target_of request)) × AllPass is_uri_byte (target_of request)
  pub text : IsUtf8 (target_of request)
  pub path : list_any is_question_mark request.path ≡ false
  pub origin : after_scheme request.path ≡ None
  pub plain : has_fragment (target_of request) ≡ false
  pub host : AllPass is_value_byte place.host
  pub port : place.port < 2 ^ 16
  pub bearer : IfSome request.bearer (AllPass is_value_byte)
  pub kind : AllPass is_value_byte content_type
  pub head : length (request_spelling place request content_type language) ≤ HEAD_BYTES + length request.body
  pub body : length request.body ≤ REQUEST_BODY_BYTES

-- what is read of it: a request that is written asks for closing, and its bearer is a whole value, with no white space round it
abbrev pub request_read : Request → Request
request_read request = record {
  method = request.method;
  path = request.path;
  query = request.query;
  bearer = bearer_of (option_map trim_ows request.bearer);
  close = true;
  body = request.body;
}

-- ---- a response

-- the fields by which a reader learns how a body ends and whether the link closes
abbrev pub is_reserved : List ℕ → Bool
is_reserved name = list_any (str_eq_ignore_ascii_case name) (codes "connection" ∷ codes "content-length" ∷ codes "transfer-encoding" ∷ [])

-- a field of its class that is none of those
pub record IsReadableHeader (header : Header) : Type 0 where
  pub name : IsToken header.name
  pub value : AllPass is_value_byte header.value
  pub plain : is_reserved header.name ≡ false

-- how many fields the writer adds: the closing of the link, and the length, which a response of status 204 doesn't say
abbrev pub added_fields : Response → ℕ
added_fields response = (if response.close then 1 else 0) + (if response.status == 204 then 0 else 1)

-- each part is of its class, there is a body only where one may be, and fields, head and body are within the limits
pub record IsReadableResponse (response : Response) : Type 0 where
  pub status : IsStatusCode response.status
  pub headers : All IsReadableHeader response.headers
  pub few : length response.headers + added_fields response ≤ HEADER_FIELDS
  pub head : length (response_spelling response) ≤ HEAD_BYTES + length response.body
  pub body : length response.body ≤ RESPONSE_BODY_BYTES
  pub bodiless : is_bodiless response.status ≡ true → response.body ≡ []

-- what is read of it: no reader keeps the fields
abbrev pub response_read : Response → Response
response_read response = record { status = response.status; headers = []; close = response.close; body = response.body }
