-- What a token is refused with: a code (RFC 8935, section 2.4) and the spot at which it failed.
use Rattle.std.specs.Prelude.{List, Bool, Option, Some, None, Result, Ok, Err}
use Rattle.sig_json.specs.Answers.{result_map}
use Rattle.sig_json.specs.Checks.{Check, first_failing}
use Rattle.sig_set.specs.declared.refusal.Code.{Code}
use Rattle.sig_set.specs.declared.refusal.Spot.{Spot}
use Rattle.sig_set.specs.declared.refusal.Refusal.{Refusal}
use Rattle.sig_set.specs.declared.refusal.Refusal.TheVariants.{Coded}

pub record Fault : Type 0 where
  pub code : Code
  pub spot : Spot

-- a test of the judgement, with what the token is refused with where it fails
abbrev pub refused_unless : Code → Spot → Bool → Check Fault
refused_unless code spot holds = record { fault = record { code = code; spot = spot }; holds = holds }

-- a value, unless a check failed: then its refusal
abbrev pub unless_refused : {T : Type 0} → Option Fault → T → Result T Refusal
unless_refused None x = Ok x
unless_refused (Some fault) x = Err (Coded fault.code fault.spot)

-- nothing, unless one of the checks failed
abbrev pub passed : List (Check Fault) → Result (Unit {0}) Refusal
passed checks = unless_refused (first_failing checks) tt

-- a result without its value
abbrev pub outcome : {T : Type 0} → Result T Refusal → Result (Unit {0}) Refusal
outcome result = result_map (λ _. tt) result
