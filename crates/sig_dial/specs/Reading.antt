-- How far an exchange reads its link: no further than the response to the request needs.
use Rattle.std.specs.Prelude.{◌≡◌, ◌⊎◌, ℕ, ◌+◌, ◌*◌, ◌≤◌, List, ◌++◌, length, Option, Some, None}
use Rattle.sig_json.specs.declared.limits.TheConstants.{RESPONSE_BODY_BYTES}
use Rattle.sig_http.specs.declared.limits.TheConstants.{PIECE_BYTES}
use Rattle.sig_http.specs.Taking.{IsOpenResponse, taken_bytes}
use Rattle.sig_http.specs.declared.message.Response.{Response}
use Rattle.sig_dial.specs.Interim.{Leads}
use Rattle.sig_dial.specs.declared.limits.TheConstants.{INTERIM_RESPONSES}

-- of a link that gave these bytes, those are left; behind at most five interim responses, what came of the next response
-- before the last piece that was taken didn't decide it
pub record ReadsOn (bytes left' : List ℕ) : Type 0 where
  pub interim : List Response
  pub few : length interim ≤ INTERIM_RESPONSES
  pub next : List ℕ
  pub leads : Leads interim bytes next
  pub before : List ℕ
  pub last : List ℕ
  pub is : next ≡ before ++ last ++ left'
  pub short : length last ≤ PIECE_BYTES
  pub undecided : IsOpenResponse before

-- nothing was taken of these bytes, or no piece after those that decide the response
abbrev pub StopsReading : List ℕ → Option (List ℕ) → Type 0
StopsReading bytes None = ⊥
StopsReading bytes (Some left') = (left' ≡ bytes) ⊎ ReadsOn bytes left'

-- bytes that an exchange takes of its link at most: as many as the readings of five interim responses and of one more
abbrev pub exchange_bytes : ℕ
exchange_bytes = (INTERIM_RESPONSES + 1) * taken_bytes RESPONSE_BODY_BYTES
