-- What a round does with the tokens that it was handed (RFC 8935, section 2).
use Rattle.std.specs.Prelude.{◌≡◌, ◌↔◌, ◌⊎◌, List, [], ◌∷◌, ◌++◌, true, Option, Some, None, Result, Ok, Err, IsOk, ⊤}
use Rattle.std.specs.Option.{option_to_list}
use Rattle.sig_links.specs.Told.{LinkPlan, Sent}
use Rattle.sig_push.specs.Pushed.{Counts, IsHeard, IsSent}
use Rattle.sig_push.specs.Targets.{lacks_gateway}
use Rattle.sig_push.specs.declared.fault.PushFault.{PushFault}
use Rattle.sig_push.specs.declared.fault.PushFault.TheVariants.{NoEndpoint, NoGateway, Memory}
use Rattle.sig_terms.specs.declared.call.Call.TheVariants.{Settle}
use Rattle.sig_terms.specs.declared.call.Outcome.{Outcome}
use Rattle.sig_terms.specs.declared.rules.Rules.{Rules}
use Rattle.sig_terms.specs.declared.token.Token.{Token}
use Rattle.sig_txnode.specs.Told.{TakerTold}
use Rattle.sig_txnode.specs.declared.turn.Turn.{Turn}
use Rattle.sig_links.specs.Views.{SideView}
use Rattle.sig_round.specs.Turns.{Adds, Asker, IsTurnOf}

-- a push is refused without a dial exactly for its token
pub record IsJudged (rules : Rules) (token : Token) (result : Result Outcome PushFault) : Type 0 where
  pub no_endpoint : (result ≡ Err NoEndpoint) ↔ (token.endpoint ≡ None)
  pub no_gateway : (result ≡ Err NoGateway) ↔ (lacks_gateway rules token ≡ true)

-- pushes of the first of these tokens ended so, in order; the Settle turns that they make; and how the round ends.
-- Each push that has an answer makes the turn that settles its token with it; a push that has none ends the round, and so
-- does memory, before a push or in its turn
abbrev pub Settles : Rules → Asker → List Token → List (Result Outcome PushFault) → List Turn → Result ⊤ PushFault → Type 0
Settles rules by [] results turns end = (results ≡ []) × (turns ≡ []) × (IsOk end ⊎ (end ≡ Err Memory))
Settles rules by (t ∷ tokens) [] turns end = (turns ≡ []) × (end ≡ Err Memory)
Settles rules by (t ∷ tokens) (Err fault ∷ results) turns end =
    IsJudged rules t (Err fault) × (results ≡ []) × (turns ≡ []) × (end ≡ Err fault)
Settles rules by (t ∷ tokens) (Ok outcome ∷ results) [] end = IsJudged rules t (Ok outcome) × (results ≡ []) × (end ≡ Err Memory)
Settles rules by (t ∷ tokens) (Ok outcome ∷ results) (turn ∷ turns) end =
    IsJudged rules t (Ok outcome) × IsTurnOf by (Settle t.stream t.number outcome) turn × Settles rules by tokens results turns end

-- the links of these pushes once they were given back, in order: at most one each, dialled and sent as its push was
abbrev pub AreSent : Rules → List Token → List (Result Outcome PushFault) → List Sent → Type 0
AreSent rules tokens [] links = links ≡ []
AreSent rules [] (r ∷ results) links = ⊥
AreSent rules (t ∷ tokens) (r ∷ results) links =
    (link : Option Sent) × (others : List Sent) × (links ≡ option_to_list link ++ others) × IsSent rules t r link × AreSent rules tokens results others

-- where a side tells which links were given back to it: they are more by those
abbrev pub SendsAll : Rules → List Token → List (Result Outcome PushFault) → Option (List Sent) → Option (List Sent) → Type 0
SendsAll rules tokens results None new = new ≡ None
SendsAll rules tokens results (Some old) new = (links : List Sent) × (new ≡ Some (old ++ links)) × AreSent rules tokens results links

-- the links that were taken for these pushes, in order: each push ended as its own link's bytes have it
abbrev pub AreHeard : List (Result Outcome PushFault) → List LinkPlan → Type 0
AreHeard [] links = links ≡ []
AreHeard (r ∷ results) links =
    (link : Option LinkPlan) × (others : List LinkPlan) × (links ≡ option_to_list link ++ others) × IsHeard r link × AreHeard results others

-- where a side tells which links its dials will give: the first of them were taken for these pushes
abbrev pub HearsAll : List (Result Outcome PushFault) → Option (List LinkPlan) → Option (List LinkPlan) → Type 0
HearsAll results None new = new ≡ None
HearsAll results (Some old) new = (links : List LinkPlan) × (rest : List LinkPlan) × (old ≡ links ++ rest) × (new ≡ Some rest) × AreHeard results links

-- a round that was handed these tokens made these Settle turns by its pushes, did so to the side, and ended so
pub record Delivers (rules : Rules) (by : Asker) (tokens : List Token) (before after : SideView) (turns : List Turn) (end : Result ⊤ PushFault) : Type 0 where
  pub results : List (Result Outcome PushFault)
  pub settles : Settles rules by tokens results turns end
  pub sends : SendsAll rules tokens results before.sent after.sent
  pub hears : HearsAll results before.ahead after.ahead
  pub times : after.times ≡ before.times
  pub counts : Counts before.faults after.faults end

-- and these turns stand in the log and are told by the taker
pub record Delivered (rules : Rules) (by : Asker) (tokens : List Token) (before after : SideView) (turns turns' : List Turn) (told told' : Option TakerTold) (end : Result ⊤ PushFault) : Type 0 where
  pub more : List Turn
  pub adds : Adds more turns turns' told told'
  pub delivers : Delivers rules by tokens before after more end
