-- Which claims stand in the receiver's journal, and how the tokens that were made differ (RFC 8417, section 2).
use Rattle.std.specs.Prelude.{◌≡◌, ℕ, List, true, map, bytes_eq, All, Contains}
use Rattle.std.specs.List.{IsDistinct}
use Rattle.sig_event.specs.declared.claims.Claims.{Claims}
use Rattle.sig_set.specs.Judgement.{claims_of}
use Rattle.sig_history.specs.Streams.{Made}
use Rattle.sig_fact_laws.specs.Identifiers.{jti_in}
use Rattle.sig_law.specs.World.{Ends, Event, Reply, World, is_taken, new_world, run}
use Rattle.sig_law.specs.Law.{AreProper, IsProperEvent, is_acknowledged, tokens_in}

-- a text in the journal tells just these claims
abbrev pub IsKept : World → Claims → Type 0
IsKept world claims = Contains (map (λ (text : List ℕ). claims_of text) world.journal) claims

-- the claims of what is acknowledged are kept
pub record ClaimsStand (ends : Ends) (world : World) : Type 0 where
  -- of each token that the receiver has acknowledged
  pub replies : All (λ (r : Reply). is_taken r.heard ≡ true → IsKept world r.message.claims) world.replies
  -- of each that the transmitter counts as acknowledged
  pub acknowledged : All (λ (t : Made). is_acknowledged world.facts t ≡ true → IsKept world t.claims) (tokens_in ends world)

-- after every schedule
abbrev pub ClaimsStandOnEverySchedule : Type 0
ClaimsStandOnEverySchedule =
    (ends : Ends) → AreProper ends → (schedule : List Event) → All IsProperEvent schedule → ClaimsStand ends (run ends new_world schedule)

-- no two of the tokens that were made have one identifier
abbrev pub TokensDifferOnEverySchedule : Type 0
TokensDifferOnEverySchedule =
    (ends : Ends) → AreProper ends → (schedule : List Event) → All IsProperEvent schedule
    → IsDistinct bytes_eq (map jti_in (tokens_in ends (run ends new_world schedule)))
