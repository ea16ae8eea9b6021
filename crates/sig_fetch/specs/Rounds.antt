-- Rounds of a fetch: each asks once, and takes what its page lists (RFC 8936, sections 2.4 and 2.5).
use Rattle.std.specs.Prelude.{◌≡◌, ◌⊎◌, ℕ, zero, suc, List, [], ◌∷◌, ◌++◌, Bool, true, false, Option, Some, None, IsSomeAnd, IsOk, IfOk, Result, Ok, Err, flat_map, ⊤}
use Rattle.std.specs.Option.{option_to_list}
use Rattle.sig_json.specs.Answers.{result_map}
use Rattle.sig_links.specs.Told.{LinkPlan, Sent}
use Rattle.sig_http.specs.declared.message.Response.{Response}
use Rattle.sig_dial.specs.Asked.{IsHeard, IsSent}
use Rattle.sig_dial.specs.declared.fault.AskFault.{AskFault}
use Rattle.sig_terms.specs.declared.call.PollAsk.{PollAsk}
use Rattle.sig_delivery.specs.declared.sets.Listed.{Listed}
use Rattle.sig_delivery.specs.declared.sets.Sets.{Sets}
use Rattle.sig_journal.specs.declared.node_fault.NodeFault.{NodeFault}
use Rattle.sig_journal.specs.declared.node_fault.NodeFault.TheVariants as node
use Rattle.sig_rxnode.specs.declared.answer.RxAnswer.{RxAnswer}
use Rattle.sig_rxnode.specs.declared.call.RxCall.TheVariants.{Token}
use Rattle.sig_rxnode.specs.declared.rules.Peer.{Peer}
use Rattle.sig_rxnode.specs.declared.turn.RxTurn.{RxTurn}
use Rattle.sig_fetch.specs.Asks.{ask_after, place_of, poll_text}
use Rattle.sig_fetch.specs.Pages.{IsPage}
use Rattle.sig_fetch.specs.declared.fault.FetchFault.{FetchFault}
use Rattle.sig_fetch.specs.declared.fault.FetchFault.TheVariants.{Store, Full, Memory}

-- what was asked, how the request was answered, and the turns of the tokens that its page lists
pub record Round : Type 0 where
  pub ask : PollAsk
  pub answer : Result Response AskFault
  pub turns : List RxTurn

-- the turns of rounds, in order
abbrev pub turns_of : List Round → List RxTurn
turns_of rounds = flat_map (λ (r : Round). r.turns) rounds

-- ---- the tokens of a page

-- the turn of a token that the peer lists: under its identifier, for the issuer that the peer speaks for
pub record IsTurnOf (peer : Peer) (listed : Listed) (turn : RxTurn) : Type 0 where
  pub link : turn.link ≡ 0
  pub call : turn.call ≡ Token (Some peer.iss) (Some listed.jti) listed.text

-- how taking a token ends, by the answer of its turn
abbrev pub end_of : Result RxAnswer NodeFault → Result ⊤ FetchFault
end_of (Ok answer) = Ok tt
end_of (Err node.Store) = Err Store
end_of (Err (node.Full n)) = Err (Full n)
end_of (Err node.Memory) = Err Memory

-- a turn without an answer is the last, and ends it; after another it goes on
abbrev pub GoesOnAfter : Result RxAnswer NodeFault → List RxTurn → Result ⊤ FetchFault → Type 0 → Type 0
GoesOnAfter (Ok answer) turns end goes_on = goes_on
GoesOnAfter (Err node.Store) turns end goes_on = (turns ≡ []) × (end ≡ Err Store)
GoesOnAfter (Err (node.Full n)) turns end goes_on = (turns ≡ []) × (end ≡ Err (Full n))
GoesOnAfter (Err node.Memory) turns end goes_on = ⊥

-- the tokens were taken one after another in these turns, and it ended so; memory may end it before any of them
abbrev pub Takes : Peer → List Listed → List RxTurn → Result ⊤ FetchFault → Type 0
Takes peer [] turns end = (turns ≡ []) × IsOk end
Takes peer (l ∷ ls) [] end = end ≡ Err Memory
Takes peer (l ∷ ls) (turn ∷ turns) end = IsTurnOf peer l turn × GoesOnAfter turn.result turns end (Takes peer ls turns end)

-- ---- one round

-- a page lists something
abbrev pub lists : List Listed → Bool
lists [] = false
lists (l ∷ ls) = true

-- without a page it ends with that fault; the tokens of one are taken, and the answer says whether there are any
abbrev pub PagesTo : Peer → Result Sets FetchFault → List RxTurn → Result Bool FetchFault → Type 0
PagesTo peer (Err fault) turns end = (turns ≡ []) × (end ≡ Err fault)
PagesTo peer (Ok page) turns end = Takes peer page.tokens turns (result_map (λ listed. tt) end) × IfOk end (λ listed. listed ≡ lists page.tokens)

-- it asks this, and goes by the page of the response
pub record IsRound (peer : Peer) (ask : PollAsk) (round : Round) (end : Result Bool FetchFault) : Type 0 where
  pub asks : round.ask ≡ ask
  pub page : Result Sets FetchFault
  pub reads : IsPage round.answer page
  pub takes : PagesTo peer page round.turns end

-- ---- all rounds

-- a round that ended with a fault ends them, and so does one that listed nothing; after another they go on
abbrev pub RoundsGoOn : Result Bool FetchFault → List Round → Result ⊤ FetchFault → Type 0 → Type 0
RoundsGoOn (Err fault) rounds end go_on = (rounds ≡ []) × (end ≡ Err fault)
RoundsGoOn (Ok false) rounds end go_on = (rounds ≡ []) × IsOk end
RoundsGoOn (Ok true) rounds end go_on = go_on

-- with so many rounds at most, of which the first asks after these turns, these rounds were made, and ended so: well exactly
-- after so many or after one that listed nothing; memory may end them before any round
abbrev pub Polls : Peer → ℕ → List RxTurn → List Round → Result ⊤ FetchFault → Type 0
Polls peer n last [] end = ((n ≡ 0) × IsOk end) ⊎ (end ≡ Err Memory)
Polls peer zero last (r ∷ rounds) end = ⊥
Polls peer (suc n) last (r ∷ rounds) end =
    (ended : Result Bool FetchFault) × IsRound peer (ask_after last) r ended × RoundsGoOn ended rounds end (Polls peer n r.turns rounds end)

-- ---- the links of rounds

-- the link of a round once it was given back: it led to the peer or its gateway, and was written the poll
abbrev pub IsPolled : Peer → Round → Option Sent → Type 0
IsPolled peer r link = IsSomeAnd (place_of peer) (λ place. IsSent place (poll_text peer r.ask) r.answer link)

-- the links of these rounds once they were given back, in order: at most one each
abbrev pub AreSent : Peer → List Round → List Sent → Type 0
AreSent peer [] links = links ≡ []
AreSent peer (r ∷ rounds) links =
    (link : Option Sent) × (others : List Sent) × (links ≡ option_to_list link ++ others) × IsPolled peer r link × AreSent peer rounds others

-- where a side tells which links were given back to it: they are more by those
abbrev pub SendsAll : Peer → List Round → Option (List Sent) → Option (List Sent) → Type 0
SendsAll peer rounds None new = new ≡ None
SendsAll peer rounds (Some old) new = (links : List Sent) × (new ≡ Some (old ++ links)) × AreSent peer rounds links

-- the links that were taken for these rounds, in order: each request was answered as its own link's bytes decide
abbrev pub AreHeard : List Round → List LinkPlan → Type 0
AreHeard [] links = links ≡ []
AreHeard (r ∷ rounds) links =
    (link : Option LinkPlan) × (others : List LinkPlan) × (links ≡ option_to_list link ++ others) × IsHeard r.answer link × AreHeard rounds others

-- where a side tells which links its dials will give: the first of them were taken for these rounds
abbrev pub HearsAll : List Round → Option (List LinkPlan) → Option (List LinkPlan) → Type 0
HearsAll rounds None new = new ≡ None
HearsAll rounds (Some old) new = (links : List LinkPlan) × (rest : List LinkPlan) × (old ≡ links ++ rest) × (new ≡ Some rest) × AreHeard rounds links
