-- The head of a push, of what a receiver wants (OpenID Shared Signals Framework 1.0, section 6.1; RFC 8935, section 2.1).
use Rattle.std.specs.Prelude.{◌≡◌, ◌≤◌, ◌<◌, ◌^◌, ℕ, List, ◌++◌, ◌+◌, Bool, true, false, ◌&&◌, Option, Some, Ok, IfSome, codes, length, nat_le}
use Rattle.std.specs.List.{after_first, before_first, list_all}
use Rattle.serde_json.specs.Data.{Data}
use Rattle.sig_json.specs.declared.limits.TheConstants.{HEAD_BYTES, REQUEST_BODY_BYTES}
use Rattle.sig_jws.specs.declared.key.Key.{Key}
use Rattle.sig_http.specs.Message.{DecidesRequest, Whole, is_question_mark}
use Rattle.sig_http.specs.Spelling.{query_part, request_spelling}
use Rattle.sig_http.specs.Targets.{has_fragment}
use Rattle.sig_http.specs.declared.message.Request.{Request}
use Rattle.sig_set.specs.Written.{token_text}
use Rattle.sig_terms.specs.declared.endpoint.Endpoint.{Endpoint}
use Rattle.sig_terms.specs.declared.token.Token.{Token}
use Rattle.sig_terms.specs.declared.want.Delivery.TheVariants.{Push}
use Rattle.sig_terms.specs.declared.want.Want.{Want}
use Rattle.sig_stream.specs.Wants.{want_of}
use Rattle.sig_delivery.specs.Pushes.{push_kind, push_of, push_read}

-- a body wants pushes to this endpoint, which this URL spells, with this authorization
pub record WantsPush (gateway : Bool) (body : Data) (endpoint : Endpoint) (url : List ℕ) (authorization : Option (List ℕ)) : Type 0 where
  pub want : Want
  pub read : want_of gateway body ≡ Ok want
  pub delivery : want.delivery ≡ Some (Push endpoint url authorization)

-- ---- bytes that end nothing

-- visible ASCII: no control byte and no space
abbrev pub is_visible : ℕ → Bool
is_visible b = nat_le 33 b && nat_le b 126

-- visible ASCII and spaces: no control byte, and so no end of a line
abbrev pub is_inline : ℕ → Bool
is_inline b = nat_le 32 b && nat_le b 126

pub record IsSafe (endpoint : Endpoint) (authorization : Option (List ℕ)) : Type 0 where
  pub host : list_all is_visible endpoint.place.host ≡ true
  pub least : 1 ≤ endpoint.place.port
  pub most : endpoint.place.port < 2 ^ 16
  pub path : list_all is_visible endpoint.path ≡ true
  pub rooted : (rest : List ℕ) × (endpoint.path ≡ codes "/" ++ rest)
  pub plain : has_fragment endpoint.path ≡ false
  pub shown : IfSome authorization (λ text. list_all is_inline text ≡ true)

abbrev pub WantedPushesAreSafe : Type 0
WantedPushesAreSafe = (gateway : Bool) (body : Data) (endpoint : Endpoint) (url : List ℕ) (authorization : Option (List ℕ))
    → WantsPush gateway body endpoint url authorization → IsSafe endpoint authorization

-- ---- sizes

-- a URL and an authorization that leave room in a head
pub record IsShort (url : List ℕ) (authorization : Option (List ℕ)) : Type 0 where
  pub url_bytes : length url ≤ 2048
  pub shown_bytes : IfSome authorization (λ text. length text ≤ 8192)

abbrev pub WantedPushesAreShort : Type 0
WantedPushesAreShort = (gateway : Bool) (body : Data) (endpoint : Endpoint) (url : List ℕ) (authorization : Option (List ℕ))
    → WantsPush gateway body endpoint url authorization → IsShort url authorization

-- a token is pushed there, and its text is no longer than a body may be
pub record IsPushTo (endpoint : Endpoint) (authorization : Option (List ℕ)) (token : Token) (key : Key) : Type 0 where
  pub leads : token.endpoint ≡ Some endpoint
  pub shows : token.authorization ≡ authorization
  pub fits : length (token_text token.claims key) ≤ REQUEST_BODY_BYTES

-- the head of each push to it is no longer than a head may be: what is written has no more beside the token's text
abbrev pub WantedHeadsFit : Type 0
WantedHeadsFit = (gateway : Bool) (body : Data) (endpoint : Endpoint) (url : List ℕ) (authorization : Option (List ℕ)) (token : Token) (key : Key)
    → WantsPush gateway body endpoint url authorization → IsPushTo endpoint authorization token key
    → length (request_spelling endpoint.place (push_of token key) push_kind false) ≤ HEAD_BYTES + length (token_text token.claims key)

-- ---- what is read back

-- a path of which nothing is lost where it is cut at its first `?`: where it has one, something follows it
abbrev pub IsWhole : List ℕ → Type 0
IsWhole path = before_first is_question_mark path ++ query_part (after_first is_question_mark path) ≡ path

-- a request with an endpoint's path and query: what stands before its first `?`, and after it
abbrev pub at_endpoint : Endpoint → Request → Request
at_endpoint endpoint request =
    record request { path = before_first is_question_mark endpoint.path; query = after_first is_question_mark endpoint.path }

-- the push that is written is read as that push and nothing else, whatever follows it
abbrev pub WantedPushesAreReadBack : Type 0
WantedPushesAreReadBack = (gateway : Bool) (body : Data) (endpoint : Endpoint) (url : List ℕ) (authorization : Option (List ℕ)) (token : Token) (key : Key)
    (rest : List ℕ) → WantsPush gateway body endpoint url authorization → IsWhole endpoint.path
    → IsPushTo endpoint authorization token key
    → DecidesRequest (request_spelling endpoint.place (push_of token key) push_kind false ++ rest)
    (Whole (at_endpoint endpoint (push_read token key)) rest)
