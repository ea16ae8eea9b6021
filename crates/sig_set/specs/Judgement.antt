-- The judgement of a token: a list of checks over its whole text, of which the first that fails decides (RFC 8417, section
-- 2; RFC 7515, section 5.2; codes of RFC 8935, section 2.4).
use Rattle.std.specs.Prelude.{ℕ, List, [], ◌∷◌, ◌++◌, Bool, false, not, Option, Some, None, bytes_eq, codes, find, is_ok, is_some, length, nat_le, option_and_then, option_map, unwrap_or, Result, Ok, Err}
use Rattle.std.specs.Result.{result_ok}
use Rattle.std.specs.List.{list_any}
use Rattle.serde_json.specs.Data.{Data}
use Rattle.sig_json.specs.Checks.{Check, first_failing}
use Rattle.sig_json.specs.Json.{json_of, member_of}
use Rattle.sig_json.specs.Members.{is_object}
use Rattle.sig_json.specs.declared.limits.TheConstants.{TOKEN_BYTES}
use Rattle.sig_jws.specs.Compact.{split_of}
use Rattle.sig_jws.specs.declared.compact.Compact.{Compact}
use Rattle.sig_jws.specs.declared.key.Key.{Key}
use Rattle.sig_rs256.specs.Keys.{PublicKey}
use Rattle.sig_event.specs.declared.claims.Claims.{Claims}
use Rattle.sig_set.specs.declared.trust.Issuer.{Issuer}
use Rattle.sig_set.specs.declared.trust.Trust.{Trust}
use Rattle.sig_set.specs.declared.refusal.Code.{Code}
use Rattle.sig_set.specs.declared.refusal.Code.TheVariants.{InvalidRequest, InvalidKey, InvalidIssuer, InvalidAudience, AuthenticationFailed, AccessDenied}
use Rattle.sig_set.specs.declared.refusal.Spot.{Spot}
use Rattle.sig_set.specs.declared.refusal.Spot.TheVariants as spot
use Rattle.sig_set.specs.declared.refusal.Refusal.{Refusal}
use Rattle.sig_set.specs.declared.refusal.Refusal.TheVariants.{Coded}
use Rattle.sig_set.specs.Checks.{Fault, refused_unless}
use Rattle.sig_set.specs.Claims.{audience_in, claims_in, content_checks, text_in}
use Rattle.sig_set.specs.Header.{algorithm_in, has_token_type, is_signed, kid_in, may_be_signed}
use Rattle.sig_set.specs.Tests.{is_text, where_there}

-- a token is valid with these claims, or refused
pub data Judgement : Type 0 where
  Valid : Claims → Judgement
  Refused : Code → Spot → Judgement

-- ---- what a text holds

-- the compact form, where the text has it
abbrev pub token_in : List ℕ → Option Compact
token_in bytes = result_ok (split_of bytes)

-- the header and the payload of a compact form, where they are JSON
abbrev pub header_in : Option Compact → Option Data
header_in token = option_and_then (λ (c : Compact). json_of c.header) token

abbrev pub payload_in : Option Compact → Option Data
payload_in token = option_and_then (λ (c : Compact). json_of c.payload) token

-- ---- whom a receiver trusts

-- the first issuer of this name
abbrev pub issuer_named : List ℕ → List Issuer → Option Issuer
issuer_named iss issuers = find (λ (issuer : Issuer). bytes_eq issuer.iss iss) issuers

-- the issuer that a payload names
abbrev pub issuer_in : List Issuer → Option Data → Option Issuer
issuer_in issuers payload = option_and_then (λ iss. issuer_named iss issuers) (text_in (codes "iss") payload)

-- its secrets, none where it isn't there
abbrev pub keys_in : List Issuer → Option Data → List Key
keys_in issuers payload = unwrap_or (option_map (λ (i : Issuer). i.keys) (issuer_in issuers payload)) []

-- its public keys, none where it isn't there
abbrev pub public_keys_in : List Issuer → Option Data → List PublicKey
public_keys_in issuers payload = unwrap_or (option_map (λ (i : Issuer). i.public_keys) (issuer_in issuers payload)) []

-- the principal is this issuer
abbrev pub speaks_for : Option (List ℕ) → Option (List ℕ) → Bool
speaks_for principal None = false
speaks_for principal (Some iss) = is_text iss principal

-- ---- the checks, in their order

-- a bearer that names somebody brings it (RFC 8935, section 2.4)
abbrev pub bearer_checks : Option (List ℕ) → List (Check Fault)
bearer_checks principal = refused_unless AuthenticationFailed spot.Bearer (is_some principal) ∷ []

-- the text: its length, and its compact form
abbrev pub text_checks : List ℕ → List (Check Fault)
text_checks bytes =
    refused_unless InvalidRequest spot.Length (nat_le (length bytes) TOKEN_BYTES)
    ∷ refused_unless InvalidRequest spot.Compact (is_ok (split_of bytes))
    ∷ []

-- the header: an object, that of a security event token, and without critical extensions (RFC 7515, section 4.1.11)
abbrev pub header_checks : Option Data → List (Check Fault)
header_checks header =
    refused_unless InvalidRequest spot.Header (where_there is_object header)
    ∷ refused_unless InvalidRequest spot.Typ (has_token_type header)
    ∷ refused_unless InvalidRequest spot.Crit (not (is_some (option_and_then (member_of (codes "crit")) header)))
    ∷ []

-- the payload: an object with an issuer
abbrev pub payload_checks : Option Data → List (Check Fault)
payload_checks payload =
    refused_unless InvalidRequest spot.Payload (where_there is_object payload)
    ∷ refused_unless InvalidRequest spot.Iss (is_some (text_in (codes "iss") payload))
    ∷ []

-- the form: the text, and what it holds
abbrev pub form_checks : List ℕ → List (Check Fault)
form_checks bytes =
    text_checks bytes ++ (header_checks (header_in (token_in bytes)) ++ payload_checks (payload_in (token_in bytes)))

-- the issuer: configured, and the one for whom the bearer speaks
abbrev pub issuer_checks : List Issuer → Option (List ℕ) → Option Data → List (Check Fault)
issuer_checks issuers principal payload =
    refused_unless InvalidIssuer spot.Iss (is_some (issuer_in issuers payload))
    ∷ refused_unless AccessDenied spot.Iss (speaks_for principal (text_in (codes "iss") payload))
    ∷ []

-- the key: an algorithm that is known (RFC 7518, sections 3.2 and 3.3), a key of its list that may have signed it, and one of
-- those that did
abbrev pub key_checks : Option Compact → Option Data → List Key → List PublicKey → List (Check Fault)
key_checks token header secrets public_keys =
    refused_unless InvalidKey spot.Alg (is_some (algorithm_in header))
    ∷ refused_unless InvalidKey spot.Kid (may_be_signed (algorithm_in header) (kid_in header) secrets public_keys)
    ∷ refused_unless InvalidKey spot.Mac (is_signed (algorithm_in header) token (kid_in header) secrets public_keys)
    ∷ []

-- the audience is the receiver, or a list of texts that holds it
abbrev pub audience_checks : List ℕ → Option Data → List (Check Fault)
audience_checks audience payload =
    refused_unless InvalidAudience spot.Aud (where_there (list_any (bytes_eq audience)) (audience_in payload)) ∷ []

-- the checks of a token's parts after its form
abbrev pub trust_checks : Trust → Option (List ℕ) → Option Compact → Option Data → Option Data → List (Check Fault)
trust_checks trust principal token header payload =
    issuer_checks trust.issuers principal payload
    ++ (key_checks token header (keys_in trust.issuers payload) (public_keys_in trust.issuers payload)
    ++ audience_checks trust.audience payload)

-- by trust, principal, the identifier under which a poll listed the token, and its text
abbrev pub checks : Trust → Option (List ℕ) → Option (List ℕ) → List ℕ → List (Check Fault)
checks trust principal named bytes =
    bearer_checks principal
    ++ (form_checks bytes
    ++ (trust_checks trust principal (token_in bytes) (header_in (token_in bytes)) (payload_in (token_in bytes))
    ++ content_checks named (payload_in (token_in bytes))))

-- ---- the judgement

-- the claims of a token's text
abbrev pub claims_of : List ℕ → Claims
claims_of bytes = claims_in (payload_in (token_in bytes))

abbrev pub judged_by : Option Fault → Claims → Judgement
judged_by None claims = Valid claims
judged_by (Some fault) claims = Refused fault.code fault.spot

-- valid with its claims where every check holds, else refused by the first that fails
abbrev pub judged : Trust → Option (List ℕ) → Option (List ℕ) → List ℕ → Judgement
judged trust principal named bytes = judged_by (first_failing (checks trust principal named bytes)) (claims_of bytes)

-- how it is answered
abbrev pub result_of : Judgement → Result Claims Refusal
result_of (Valid claims) = Ok claims
result_of (Refused code spot) = Err (Coded code spot)
