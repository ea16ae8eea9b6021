-- The response that refuses a token settles it by its code.
use Rattle.std.proofs.Common.{◌≡◌, List, ℕ, true, Some, IsUtf8, refl, arith}
use Rattle.json.proofs.Printed.Utf8.{are_ascii, IsUtf8-are_ascii}
use Rattle.serde_json.specs.Written.{compact_text}
use Rattle.sig_json.proofs.ReadBack.{canon_reads}
use Rattle.sig_json.specs.Json.{json_of}
use Rattle.sig_set.specs.Spelled.{code_text, spot_text}
use Rattle.sig_set.specs.declared.refusal.Code.{Code}
use Rattle.sig_set.specs.declared.refusal.Code.TheVariants.{InvalidRequest, InvalidKey, InvalidIssuer, InvalidAudience, AuthenticationFailed, AccessDenied}
use Rattle.sig_set.specs.declared.refusal.Spot.{Spot}
use Rattle.sig_set.specs.declared.refusal.Spot.TheVariants as spot
use Rattle.sig_delivery.specs.Laws.{SettlesByCode}
use Rattle.sig_delivery.specs.Outcomes.{reported_as, settled_by}
use Rattle.sig_delivery.specs.Pushes.{refusal_data}

ascii : (text : List ℕ) → are_ascii text ≡ true → IsUtf8 text
ascii text h = IsUtf8-are_ascii text h

code_utf8 : (code : Code) → IsUtf8 (code_text code)
code_utf8 InvalidRequest = ascii _ refl
code_utf8 InvalidKey = ascii _ refl
code_utf8 InvalidIssuer = ascii _ refl
code_utf8 InvalidAudience = ascii _ refl
code_utf8 AuthenticationFailed = ascii _ refl
code_utf8 AccessDenied = ascii _ refl

spot_utf8 : (s : Spot) → IsUtf8 (spot_text s)
spot_utf8 spot.Bearer = ascii _ refl
spot_utf8 spot.Length = ascii _ refl
spot_utf8 spot.Compact = ascii _ refl
spot_utf8 spot.Header = ascii _ refl
spot_utf8 spot.Typ = ascii _ refl
spot_utf8 spot.Crit = ascii _ refl
spot_utf8 spot.Payload = ascii _ refl
spot_utf8 spot.Iss = ascii _ refl
spot_utf8 spot.Alg = ascii _ refl
spot_utf8 spot.Kid = ascii _ refl
spot_utf8 spot.Mac = ascii _ refl
spot_utf8 spot.Aud = ascii _ refl
spot_utf8 spot.Jti = ascii _ refl
spot_utf8 spot.Iat = ascii _ refl
spot_utf8 spot.Exp = ascii _ refl
spot_utf8 spot.Sub = ascii _ refl
spot_utf8 spot.SubId = ascii _ refl
spot_utf8 spot.Events = ascii _ refl
spot_utf8 spot.Event = ascii _ refl

spelled : (code : Code) (s : Spot) → json_of (compact_text (refusal_data code s)) ≡ Some (refusal_data code s)
spelled code s =
    canon_reads (refusal_data code s) (ascii _ refl, spot_utf8 s, (refl, tt), (ascii _ refl, code_utf8 code, tt, tt)) (omega arith)

settles : (code : Code) → reported_as (Some (code_text code)) ≡ settled_by code
settles InvalidRequest = refl
settles InvalidKey = refl
settles InvalidIssuer = refl
settles InvalidAudience = refl
settles AuthenticationFailed = refl
settles AccessDenied = refl

pub settles_by_code : SettlesByCode
settles_by_code code s = rw (spelled code s) (settles code)
