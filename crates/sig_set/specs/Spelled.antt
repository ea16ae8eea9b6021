-- The texts of codes and spots.
use Rattle.std.specs.Prelude.{ℕ, List, codes}
use Rattle.sig_set.specs.declared.refusal.Code.{Code}
use Rattle.sig_set.specs.declared.refusal.Code.TheVariants.{InvalidRequest, InvalidKey, InvalidIssuer, InvalidAudience, AuthenticationFailed, AccessDenied}
use Rattle.sig_set.specs.declared.refusal.Spot.{Spot}
use Rattle.sig_set.specs.declared.refusal.Spot.TheVariants as spot

-- a code's text (RFC 8935, section 2.4)
abbrev pub code_text : Code → List ℕ
code_text InvalidRequest = codes "invalid_request"
code_text InvalidKey = codes "invalid_key"
code_text InvalidIssuer = codes "invalid_issuer"
code_text InvalidAudience = codes "invalid_audience"
code_text AuthenticationFailed = codes "authentication_failed"
code_text AccessDenied = codes "access_denied"

-- a spot's text
abbrev pub spot_text : Spot → List ℕ
spot_text spot.Bearer = codes "bearer"
spot_text spot.Length = codes "length"
spot_text spot.Compact = codes "compact"
spot_text spot.Header = codes "header"
spot_text spot.Typ = codes "typ"
spot_text spot.Crit = codes "crit"
spot_text spot.Payload = codes "payload"
spot_text spot.Iss = codes "iss"
spot_text spot.Alg = codes "alg"
spot_text spot.Kid = codes "kid"
spot_text spot.Mac = codes "mac"
spot_text spot.Aud = codes "aud"
spot_text spot.Jti = codes "jti"
spot_text spot.Iat = codes "iat"
spot_text spot.Exp = codes "exp"
spot_text spot.Sub = codes "sub"
spot_text spot.SubId = codes "sub_id"
spot_text spot.Events = codes "events"
spot_text spot.Event = codes "event"
