-- What the response to a push settles (RFC 8935, sections 2.2 to 2.4).
use Rattle.std.specs.Prelude.{ℕ, ◌==◌, List, [], ◌∷◌, Bool, Option, Some, None, option_and_then, bytes_eq, codes, if◌then◌else◌}
use Rattle.std.specs.List.{list_any}
use Rattle.sig_json.specs.Json.{json_of, text_member}
use Rattle.sig_http.specs.declared.message.Response.{Response}
use Rattle.sig_set.specs.declared.refusal.Code.{Code}
use Rattle.sig_set.specs.declared.refusal.Code.TheVariants.{InvalidRequest, InvalidKey, InvalidIssuer, InvalidAudience, AuthenticationFailed, AccessDenied}
use Rattle.sig_terms.specs.declared.call.Outcome.{Outcome}
use Rattle.sig_terms.specs.declared.call.Outcome.TheVariants.{Accepted, Keep, Reported}

-- the codes by which a receiver says that a token is faulty (section 2.4): the two others that are registered speak of
-- who brings it, and what isn't registered may be another's word than a receiver's
abbrev pub codes_of_tokens : List (List ℕ)
codes_of_tokens =
    codes "invalid_request" ∷ codes "invalid_key" ∷ codes "invalid_issuer" ∷ codes "invalid_audience" ∷ []

abbrev pub is_of_token : List ℕ → Bool
is_of_token code = list_any (bytes_eq code) codes_of_tokens

-- such a code settles the token as faulty, and nothing else does
abbrev pub reported_as : Option (List ℕ) → Outcome
reported_as None = Keep
reported_as (Some code) = if is_of_token code then Reported code else Keep

-- `err` of a body that is a JSON object (section 2.3)
abbrev pub code_in : List ℕ → Option (List ℕ)
code_in body = option_and_then (text_member (codes "err")) (json_of body)

-- 202 takes the token (section 2.2), 400 may refuse it (section 2.3), and any other status says nothing of it
abbrev pub outcome_of : Response → Outcome
outcome_of response =
    if response.status == 202 then Accepted else (if response.status == 400 then reported_as (code_in response.body) else Keep)

-- what each code of a refusal settles
abbrev pub settled_by : Code → Outcome
settled_by InvalidRequest = Reported (codes "invalid_request")
settled_by InvalidKey = Reported (codes "invalid_key")
settled_by InvalidIssuer = Reported (codes "invalid_issuer")
settled_by InvalidAudience = Reported (codes "invalid_audience")
settled_by AuthenticationFailed = Keep
settled_by AccessDenied = Keep
