-- The claims of a token's text without a judgement of its key (RFC 8417, section 2.2).
use Rattle.std.specs.Prelude.{ℕ, List, ◌∷◌, ◌++◌, is_some, Option, Some, None, Result, Ok, Err}
use Rattle.sig_json.specs.Checks.{Check, first_failing}
use Rattle.sig_event.specs.declared.claims.Claims.{Claims}
use Rattle.sig_set.specs.declared.reading.ClaimsFault.{ClaimsFault}
use Rattle.sig_set.specs.declared.reading.ClaimsFault.TheVariants.{Bad}
use Rattle.sig_set.specs.declared.refusal.Code.TheVariants.{InvalidAudience}
use Rattle.sig_set.specs.declared.refusal.Spot.TheVariants as spot
use Rattle.sig_set.specs.Checks.{Fault, refused_unless}
use Rattle.sig_set.specs.Claims.{audience_in, content_checks}
use Rattle.sig_set.specs.Judgement.{claims_of, form_checks, payload_in, token_in}

-- the form of the text, that of its audience, and what it says
abbrev pub reading_checks : List ℕ → List (Check Fault)
reading_checks bytes =
    form_checks bytes
    ++ (refused_unless InvalidAudience spot.Aud (is_some (audience_in (payload_in (token_in bytes))))
    ∷ content_checks None (payload_in (token_in bytes)))

abbrev pub read_by : Option Fault → Claims → Result Claims ClaimsFault
read_by None claims = Ok claims
read_by (Some fault) claims = Err (Bad fault.spot)

-- the claims, or the spot of the first check that fails
abbrev pub claims_read : List ℕ → Result Claims ClaimsFault
claims_read bytes = read_by (first_failing (reading_checks bytes)) (claims_of bytes)
