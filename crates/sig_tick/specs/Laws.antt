-- Why an attempt is late.
use Rattle.std.specs.Prelude.{◌≡◌, ◌⊎◌, List, length, Bool, true, false, is_none, Result, Ok, Err}
use Rattle.std.specs.List.{list_any}
use Rattle.sig_links.specs.Views.{SideView}
use Rattle.sig_outside.specs.Causes.{Rose}
use Rattle.sig_push.specs.Targets.{lacks_gateway}
use Rattle.sig_push.specs.declared.fault.PushFault.{PushFault}
use Rattle.sig_push.specs.declared.fault.PushFault.TheVariants.{NoEndpoint, NoGateway, Dial, Link, NoResponse, Memory}
use Rattle.sig_round.specs.Turns.{Asker}
use Rattle.sig_terms.specs.declared.call.Call.{Call}
use Rattle.sig_terms.specs.declared.call.Call.TheVariants.{Settle}
use Rattle.sig_terms.specs.declared.call.Outcome.{Outcome}
use Rattle.sig_terms.specs.declared.call.Outcome.TheVariants.{Accepted, Reported, Keep}
use Rattle.sig_terms.specs.declared.rules.Rules.{Rules}
use Rattle.sig_terms.specs.declared.token.Token.{Token}
use Rattle.sig_txnode.specs.declared.turn.Turn.{Turn}
use Rattle.sig_tick.specs.Bringing.{Brings, are_settled}

-- an outcome keeps its token
abbrev pub is_kept : Outcome → Bool
is_kept Accepted = false
is_kept (Reported code) = false
is_kept Keep = true

abbrev pub keeps_by : Call → Bool
keeps_by (Settle stream number outcome) = is_kept outcome
keeps_by _ = false

abbrev pub keeps : Turn → Bool
keeps t = keeps_by t.call

-- a push whose link gave no response
abbrev pub is_silent : Result Outcome PushFault → Bool
is_silent (Ok outcome) = false
is_silent (Err NoEndpoint) = false
is_silent (Err NoGateway) = false
is_silent (Err Dial) = false
is_silent (Err Link) = false
is_silent (Err NoResponse) = true
is_silent (Err Memory) = false

-- a token has no endpoint; what the table of calls hands out has
abbrev pub lacks_endpoint : Token → Bool
lacks_endpoint t = is_none t.endpoint

-- an outcome kept its token, the side's count rose, a link gave no response, or a token's endpoint is https without a gateway,
-- or there is none
abbrev pub HasCause : Rules → List Token → SideView → SideView → List (Result Outcome PushFault) → List Turn → Type 0
HasCause rules tokens before after results turns =
    (list_any keeps turns ≡ true) ⊎ Rose before.faults after.faults ⊎ (list_any is_silent results ≡ true)
    ⊎ (list_any (lacks_gateway rules) tokens ≡ true) ⊎ (list_any lacks_endpoint tokens ≡ true)

-- in a tick that goes on, an attempt is late only where it has such a cause
abbrev pub LateHaveCauses : Type 0
LateHaveCauses = (rules : Rules) (by : Asker) (tokens : List Token) (before after : SideView) (turns : List Turn)
    → (brings : Brings rules by tokens before after turns (Ok tt)) → are_settled (length tokens) turns ≡ false → HasCause rules tokens before after brings.delivers.results turns
