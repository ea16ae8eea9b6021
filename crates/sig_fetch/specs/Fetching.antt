-- What a fetch does to the side and to the node, and what it answers (RFC 8936, sections 2.4 and 2.5).
use Rattle.std.specs.Prelude.{◌≡◌, ◌⊎◌, ℕ, ◌+◌, List, [], ◌++◌, Bool, true, false, length, count_by, is_some, All, Option, Some, None, IfOk, Result, Ok, Err, drop, ⊤}
use Rattle.std.specs.Option.{option_to_list}
use Rattle.sig_json.specs.Answers.{result_map}
use Rattle.sig_outside.specs.Causes.{Raised}
use Rattle.sig_links.specs.Told.{LinkPlan, Sent}
use Rattle.sig_terms.specs.declared.call.PollAsk.{PollAsk}
use Rattle.sig_delivery.specs.declared.sets.Listed.{Listed}
use Rattle.sig_inbox.specs.Pairs.{has_pair}
use Rattle.sig_journal.specs.declared.node_fault.NodeFault.{NodeFault}
use Rattle.sig_rxnode.specs.declared.answer.RxAnswer.{RxAnswer}
use Rattle.sig_rxnode.specs.declared.answer.RxAnswer.TheVariants as answer
use Rattle.sig_rxnode.specs.declared.rules.Peer.{Peer}
use Rattle.sig_rxnode.specs.declared.turn.RxTurn.{RxTurn}
use Rattle.sig_rxnode.specs.Node.{NodeView}
use Rattle.sig_fetch.specs.Asks.{refusal_in}
use Rattle.sig_fetch.specs.Rounds.{HearsAll, IsRound, Polls, Round, SendsAll, Takes, turns_of}
use Rattle.sig_fetch.specs.Turns.{Grows}
use Rattle.sig_fetch.specs.declared.fault.FetchFault.{FetchFault}
use Rattle.sig_fetch.specs.declared.fault.FetchFault.TheVariants.{NoGateway, Dial, Link, Peer as PeerFault, Store, Full, Memory}
use Rattle.sig_fetch.specs.declared.fetched.Fetched.{Fetched}

-- ---- what became of the side and of the node

-- these rounds were made over the side's links, and the node has their turns more
pub record Made {D : Type 0} (peer : Peer) (rounds : List Round) (ahead ahead' : Option (List LinkPlan)) (sent sent' : Option (List Sent)) (old new : NodeView D) : Type 0 where
  pub sends : SendsAll peer rounds sent sent'
  pub hears : HearsAll rounds ahead ahead'
  pub grows : Grows (turns_of rounds) old new

-- the pair of the peer's issuer and this identifier is kept
abbrev pub Stands : {D : Type 0} → Peer → NodeView D → List ℕ → Type 0
Stands peer node jti = has_pair (record { iss = peer.iss; jti = jti }) node.kept.state.pairs ≡ true

-- what a round acknowledges is kept
abbrev pub AcksStand : {D : Type 0} → Peer → NodeView D → Round → Type 0
AcksStand peer node r = All (Stands peer node) r.ask.acks

-- without a gateway that is needed no round is made; else at most so many are, of which the first asks after no turns
abbrev pub PollsIfReached : Peer → ℕ → List Round → Result ⊤ FetchFault → Type 0
PollsIfReached peer n rounds end = ((end ≡ Err NoGateway) × (rounds ≡ [])) ⊎ Polls peer n [] rounds end

-- a fetch of at most so many rounds: those that it made, how many they are at `Ok`, what they did, and that whatever they
-- acknowledge is kept
pub record Fetches {D : Type 0} (peer : Peer) (n : ℕ) (ahead ahead' : Option (List LinkPlan)) (sent sent' : Option (List Sent)) (old new : NodeView D) (end : Result ℕ FetchFault) : Type 0 where
  pub rounds : List Round
  pub polls : PollsIfReached peer n rounds (result_map (λ made. tt) end)
  pub counts : IfOk end (λ made. made ≡ length rounds)
  pub made : Made peer rounds ahead ahead' sent sent' old new
  pub acknowledged : All (AcksStand peer new) rounds

-- these tokens were taken in turns that the node has more, and which stand after those that were gathered before
pub record Taken {D : Type 0} (peer : Peer) (tokens : List Listed) (before gathered : List RxTurn) (old new : NodeView D) (end : Result ⊤ FetchFault) : Type 0 where
  pub turns : List RxTurn
  pub takes : Takes peer tokens turns end
  pub grows : Grows turns old new
  pub gathers : gathered ≡ before ++ turns

-- the round that asks this, or none where memory ran out before its request, what it did, and its turns after those that were
-- gathered before
abbrev pub IsRoundOrNone : Peer → PollAsk → Option Round → Result Bool FetchFault → Type 0
IsRoundOrNone peer ask None end = end ≡ Err Memory
IsRoundOrNone peer ask (Some r) end = IsRound peer ask r end

pub record Goes {D : Type 0} (peer : Peer) (ask : PollAsk) (ahead ahead' : Option (List LinkPlan)) (sent sent' : Option (List Sent)) (before gathered : List RxTurn) (old new : NodeView D) (end : Result Bool FetchFault) : Type 0 where
  pub round : Option Round
  pub is : IsRoundOrNone peer ask round end
  pub made : Made peer (option_to_list round) ahead ahead' sent sent' old new
  pub gathers : gathered ≡ before ++ turns_of (option_to_list round)

-- ---- the side's count

-- it is raised by one where a dial or a link failed, and any other end leaves it
abbrev pub Counts : {T : Type 0} → ℕ → ℕ → Result T FetchFault → Type 0
Counts before now (Ok x) = now ≡ before
Counts before now (Err NoGateway) = now ≡ before
Counts before now (Err Dial) = Raised before now
Counts before now (Err Link) = Raised before now
Counts before now (Err (PeerFault place)) = now ≡ before
Counts before now (Err Store) = now ≡ before
Counts before now (Err (Full n)) = now ≡ before
Counts before now (Err Memory) = now ≡ before

-- ---- what is counted of the turns

abbrev pub was_accepted : Result RxAnswer NodeFault → Bool
was_accepted (Ok answer.Accepted) = true
was_accepted (Ok answer.Seen) = false
was_accepted (Ok (answer.Refused code spot)) = false
was_accepted (Ok (answer.Verdict verdict)) = false
was_accepted (Ok (answer.Rows rows)) = false
was_accepted (Ok (answer.Figures tokens rows)) = false
was_accepted (Err fault) = false

abbrev pub was_seen : Result RxAnswer NodeFault → Bool
was_seen (Ok answer.Accepted) = false
was_seen (Ok answer.Seen) = true
was_seen (Ok (answer.Refused code spot)) = false
was_seen (Ok (answer.Verdict verdict)) = false
was_seen (Ok (answer.Rows rows)) = false
was_seen (Ok (answer.Figures tokens rows)) = false
was_seen (Err fault) = false

-- so many of these turns had each answer
pub record AreCounted (turns : List RxTurn) (fetched : Fetched) : Type 0 where
  pub accepted : fetched.accepted ≡ count_by (λ (t : RxTurn). was_accepted t.result) turns
  pub seen : fetched.seen ≡ count_by (λ (t : RxTurn). was_seen t.result) turns
  pub refused : fetched.refused ≡ count_by (λ (t : RxTurn). is_some (refusal_in t.result)) turns

-- at `Ok` they are those of the turns that the node has more, and as many texts were added as tokens were accepted
pub record Tallies {D : Type 0} (old new : NodeView D) (fetched : Fetched) : Type 0 where
  pub turns : AreCounted (drop (length old.turns) new.turns) fetched
  pub texts : length new.kept.entries ≡ length old.kept.entries + fetched.accepted
