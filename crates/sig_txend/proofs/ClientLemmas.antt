-- No turn of a push round hands out tokens of a stream whose client the rules don't have.
use Rattle.std.proofs.Common.{◌≡◌, ℕ, Bool, true, false, List, [], ◌∷◌, Option, Some, None, Result, Ok, Err, filter, if◌then◌else◌, refl, sym, subst}
use Rattle.std.specs.Prelude.{All, option_map, ⊤}
use Rattle.std.proofs.Common.{inl, inr}
use Rattle.std.proofs.lemmas.List.Elements.{All-cons, All-nil, All-append, All-head, All-tail}
use Rattle.sig_journal.specs.declared.node_fault.NodeFault.{NodeFault}
use Rattle.sig_links.specs.Views.{SideView}
use Rattle.sig_push.specs.declared.fault.PushFault.{PushFault}
use Rattle.sig_round.specs.Delivered.{Settles}
use Rattle.sig_round.specs.Rounds.{AreRounds, IsRound, NextUnless, is_starved}
use Rattle.sig_round.specs.Turns.{Asker}
use Rattle.sig_terms.specs.declared.answer.Answer.{Answer}
use Rattle.sig_terms.specs.declared.call.Outcome.{Outcome}
use Rattle.sig_terms.specs.declared.rules.Rules.{Rules}
use Rattle.sig_terms.specs.declared.token.Token.{Token}
use Rattle.sig_txnode.specs.declared.turn.Turn.{Turn}
use Rattle.sig_txend.specs.Following.{AreRoundsOver, has_client, streams_in, streams_named}
use Rattle.sig_txend.specs.Laws.{HandsToClients, RoundsAreOfClients}

abbrev AreClients : Rules → List (List ℕ) → Type 0
AreClients rules streams = All (λ (stream : List ℕ). has_client rules stream ≡ true) streams

filtered : (rules : Rules) (streams : List (List ℕ)) → AreClients rules (filter (has_client rules) streams)
filtered rules [] = All-nil (λ (stream : List ℕ). has_client rules stream ≡ true)
filtered rules (s ∷ streams) =
    elim (has_client rules s) as (λ b. has_client rules s ≡ b → AreClients rules (if b then s ∷ filter (has_client rules) streams else filter (has_client rules) streams)) [
      | true ↦ λ is. All-cons (λ (stream : List ℕ). has_client rules stream ≡ true) s (filter (has_client rules) streams) is (filtered rules streams)
      | false ↦ λ not. filtered rules streams
    ] refl

settles_hand_none : (rules : Rules) (by : Asker) (tokens : List Token) (results : List (Result Outcome PushFault)) (turns : List Turn) (end : Result ⊤ PushFault)
    → Settles rules by tokens results turns end → All (HandsToClients rules) turns
settles_hand_none rules by [] results turns end h = subst (All (HandsToClients rules)) (sym h.1) (All-nil (HandsToClients rules))
settles_hand_none rules by (t ∷ tokens) [] turns end h = subst (All (HandsToClients rules)) (sym h.0) (All-nil (HandsToClients rules))
settles_hand_none rules by (t ∷ tokens) (Err fault ∷ results) turns end h = subst (All (HandsToClients rules)) (sym h.2) (All-nil (HandsToClients rules))
settles_hand_none rules by (t ∷ tokens) (Ok outcome ∷ results) [] end h = All-nil (HandsToClients rules)
settles_hand_none rules by (t ∷ tokens) (Ok outcome ∷ results) (turn ∷ turns) end h =
    All-cons (HandsToClients rules) turn turns (subst (HandsToClients rules) (sym h.1.asked) (All-nil (λ (stream : List ℕ). has_client rules stream ≡ true)))
    (settles_hand_none rules by tokens results turns end h.2)

round_hands : (rules : Rules) (by : Asker) (stream : List ℕ) (a b : SideView) (turns : List Turn) (end : Result ⊤ PushFault) → has_client rules stream ≡ true
    → IsRound rules by stream a b turns end → All (HandsToClients rules) turns
round_hands rules by stream a b [] end is h = All-nil (HandsToClients rules)
round_hands rules by stream a b (hand ∷ settles) end is h =
    let client = λ (s : List ℕ). has_client rules s ≡ true in
    All-cons (HandsToClients rules) hand settles (subst (HandsToClients rules) (sym h.0.asked) (All-cons client stream [] is (All-nil client)))
    (settles_hand_none rules by _ h.1.results settles end h.1.settles)

rounds_hand : (passes : List ℕ → Type 0) (rules : Rules) (by : Asker) (streams : List (List ℕ)) (a b : SideView) (turns : List Turn) (starved : Bool) → AreClients rules streams
    → AreRounds passes rules by streams a b turns starved → All (HandsToClients rules) turns
rounds_hand passes rules by [] a b turns starved ok h = subst (All (HandsToClients rules)) (sym h.0) (All-nil (HandsToClients rules))
rounds_hand passes rules by (s ∷ streams) a b turns starved ok (inl passed) =
    rounds_hand passes rules by streams a b turns starved (All-tail (λ (stream : List ℕ). has_client rules stream ≡ true) s streams ok) passed.1
rounds_hand passes rules by (s ∷ streams) a b turns starved ok (inr (between, one, these, those, parts, round, next)) =
    let client = λ (stream : List ℕ). has_client rules stream ≡ true in
    subst (All (HandsToClients rules)) (sym parts)
    (All-append (HandsToClients rules) these those (round_hands rules by s a between these one (All-head client s streams ok) round)
    (others (is_starved one) (rounds_hand passes rules by streams between b those starved (All-tail client s streams ok)) next))
  where
    others : (out : Bool) → (AreRounds passes rules by streams between b those starved → All (HandsToClients rules) those)
        → NextUnless out (AreRounds passes rules by streams between b those starved) ((those ≡ []) × (b ≡ between) × (starved ≡ true)) → All (HandsToClients rules) those
    others true rest ended = subst (All (HandsToClients rules)) (sym ended.0) (All-nil (HandsToClients rules))
    others false rest more = rest more

over_clients : (passes : List ℕ → Type 0) (rules : Rules) (by : Asker) (named : Option (List (List ℕ))) (a b : SideView) (turns : List Turn) (starved : Bool)
    → AreRoundsOver passes rules by (option_map (filter (has_client rules)) named) a b turns starved → All (HandsToClients rules) turns
over_clients passes rules by None a b turns starved h = subst (All (HandsToClients rules)) (sym h.0) (All-nil (HandsToClients rules))
over_clients passes rules by (Some streams) a b turns starved (inl h) = rounds_hand passes rules by (filter (has_client rules) streams) a b turns starved (filtered rules streams) h
over_clients passes rules by (Some streams) a b turns starved (inr h) = subst (All (HandsToClients rules)) (sym h.0) (All-nil (HandsToClients rules))

over_result : (passes : List ℕ → Type 0) (rules : Rules) (by : Asker) (result : Result Answer NodeFault) (a b : SideView) (turns : List Turn) (starved : Bool)
    → AreRoundsOver passes rules by (streams_in rules result) a b turns starved → All (HandsToClients rules) turns
over_result passes rules by (Ok answer) a b turns starved h = over_clients passes rules by (streams_named answer) a b turns starved h
over_result passes rules by (Err fault) a b turns starved h = subst (All (HandsToClients rules)) (sym h.0) (All-nil (HandsToClients rules))

pub rounds_are_of_clients : RoundsAreOfClients
rounds_are_of_clients rules turn more starved before after h = over_result (λ (stream : List ℕ). Unit {0}) rules (record { link = turn.link; now = turn.now }) turn.result before after more starved h
