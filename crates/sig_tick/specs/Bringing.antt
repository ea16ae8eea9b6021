-- How an attempt brings the tokens that it was handed, until one isn't taken (RFC 8935, section 2).
use Rattle.std.specs.Prelude.{◌≡◌, ◌==◌, ◌&&◌, ℕ, List, [], ◌∷◌, ◌++◌, length, Bool, true, false, All, Option, Result, Ok, Err, IsOk, is_ok, ⊤}
use Rattle.std.specs.List.{list_all}
use Rattle.sig_courier.specs.declared.attempt.Attempt.{Attempt}
use Rattle.sig_journal.specs.declared.node_fault.NodeFault.{NodeFault}
use Rattle.sig_journal.specs.declared.node_fault.NodeFault.TheVariants as node
use Rattle.sig_links.specs.Views.{SideView}
use Rattle.sig_push.specs.declared.fault.PushFault.{PushFault}
use Rattle.sig_push.specs.declared.fault.PushFault.TheVariants.{NoEndpoint, NoGateway, Dial, Link, NoResponse, Memory}
use Rattle.sig_round.specs.Delivered.{Delivers}
use Rattle.sig_round.specs.Turns.{Adds, Asker}
use Rattle.sig_terms.specs.declared.call.Call.{Call}
use Rattle.sig_terms.specs.declared.call.Call.TheVariants.{Settle}
use Rattle.sig_terms.specs.declared.call.Outcome.{Outcome}
use Rattle.sig_terms.specs.declared.call.Outcome.TheVariants.{Accepted, Reported, Keep}
use Rattle.sig_terms.specs.declared.rules.Rules.{Rules}
use Rattle.sig_terms.specs.declared.token.Token.{Token}
use Rattle.sig_txnode.specs.Answering.{time_used}
use Rattle.sig_txnode.specs.Told.{TakerTold}
use Rattle.sig_txnode.specs.declared.turn.Turn.{Turn}

-- ---- which attempts are good

-- an outcome takes a token off, whether its receiver took it or reported it
abbrev pub is_final : Outcome → Bool
is_final Accepted = true
is_final (Reported code) = true
is_final Keep = false

abbrev pub settles_by : Call → Bool
settles_by (Settle stream number outcome) = is_final outcome
settles_by _ = false

-- a turn settled its token
abbrev pub is_settling : Turn → Bool
is_settling t = settles_by t.call && is_ok t.result

-- so many tokens were settled in these turns, one in each
abbrev pub are_settled : ℕ → List Turn → Bool
are_settled count turns = (length turns == count) && list_all is_settling turns

-- the attempt that was handed these tokens at that time and made these turns: good exactly where each token was settled
abbrev pub attempt_of : List ℕ → Asker → List Token → List Turn → Attempt
attempt_of stream by tokens turns = record { stream = stream; at = time_used by.now; tokens = length tokens; good = are_settled (length tokens) turns }

-- ---- how its pushes go

-- what the end of an attempt by a push without an answer is to the tick: nothing, but where memory ran out
abbrev pub end_by : PushFault → Result ⊤ NodeFault
end_by NoEndpoint = Ok tt
end_by NoGateway = Ok tt
end_by Dial = Ok tt
end_by Link = Ok tt
end_by NoResponse = Ok tt
end_by Memory = Err node.Memory

-- each turn was answered
abbrev pub AreAnswered : List Turn → Type 0
AreAnswered turns = All (λ (t : Turn). is_ok t.result ≡ true) turns

-- each but the last, which has this fault
pub record AreRefused (turns : List Turn) (fault : NodeFault) : Type 0 where
  pub earlier : List Turn
  pub last : Turn
  pub parts : turns ≡ earlier ++ last ∷ []
  pub answered : AreAnswered earlier
  pub refused : last.result ≡ Err fault

-- pushes that ended so, with these turns, leave these tokens, and the tick goes on or ends so: where every push had an
-- answer, none is left, unless a turn was refused; and a push without one ends them
abbrev pub Stops : Result ⊤ PushFault → List Token → List Turn → Result ⊤ NodeFault → Type 0
Stops (Ok u) left turns (Ok v) = (left ≡ []) × AreAnswered turns
Stops (Ok u) left turns (Err fault) = AreRefused turns fault
Stops (Err fault) left turns end = (end ≡ end_by fault) × (IsOk end → AreAnswered turns)

-- the first of these tokens were pushed and settled as in a round, in these turns, and it ended so
pub record Brings (rules : Rules) (by : Asker) (tokens : List Token) (before after : SideView) (turns : List Turn) (end : Result ⊤ NodeFault) : Type 0 where
  pub met : List Token
  pub left : List Token
  pub parts : tokens ≡ met ++ left
  pub pushed : Result ⊤ PushFault
  pub delivers : Delivers rules by met before after turns pushed
  pub stops : Stops pushed left turns end

-- and these turns stand in the log and are told by the taker
pub record Brought (rules : Rules) (by : Asker) (tokens : List Token) (before after : SideView) (turns turns' : List Turn) (told told' : Option TakerTold) (end : Result ⊤ NodeFault) : Type 0 where
  pub more : List Turn
  pub adds : Adds more turns turns' told told'
  pub brings : Brings rules by tokens before after more end
