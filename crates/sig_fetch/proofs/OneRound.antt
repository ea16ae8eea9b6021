-- One round: what was asked, read and taken.
use Rattle.std.proofs.Common.{◌≡◌, ◌⊎◌, ◌∙◌, ap, sym, subst, refl, inl, inr, ℕ, ◌==◌, List, [], ◌∷◌, ◌++◌, append-nil, Bool, true, false, Option, Some, None, if◌then◌else◌, codes, Result, Ok, Err, is_ok, IsErrOf}
use Rattle.std.specs.Prelude.{⊤}
use Rattle.sig_links.specs.Told.{LinkPlan, Sent}
use Rattle.sig_outside.specs.declared.place.Place.{Place}
use Rattle.sig_http.specs.Spelling.{request_spelling}
use Rattle.sig_http.specs.declared.message.Request.{Request}
use Rattle.sig_http.specs.declared.message.Response.{Response}
use Rattle.sig_dial.specs.Asked as dialled
use Rattle.sig_dial.specs.declared.fault.AskFault.{AskFault}
use Rattle.sig_dial.specs.declared.fault.AskFault.TheVariants as asked
use Rattle.sig_terms.specs.declared.call.PollAsk.{PollAsk}
use Rattle.sig_delivery.specs.Sets.{sets_of}
use Rattle.sig_delivery.specs.declared.fault.BodyFault.{BodyFault}
use Rattle.sig_delivery.specs.declared.fault.BodyFault.TheVariants as body
use Rattle.sig_delivery.specs.declared.sets.Listed.{Listed}
use Rattle.sig_delivery.specs.declared.sets.Sets.{Sets}
use Rattle.sig_journal.specs.declared.node_fault.NodeFault.{NodeFault}
use Rattle.sig_journal.specs.declared.node_fault.NodeFault.TheVariants as node
use Rattle.sig_rxnode.specs.declared.answer.RxAnswer.{RxAnswer}
use Rattle.sig_rxnode.specs.declared.rules.Peer.{Peer}
use Rattle.sig_rxnode.specs.declared.turn.RxTurn.{RxTurn}
use Rattle.sig_rxnode.specs.Node.{NodeView}
use Rattle.sig_fetch.specs.Asks.{place_of, poll_kind, poll_of, poll_text, reports}
use Rattle.sig_fetch.specs.Fetching.{Counts, Goes, IsRoundOrNone, Made, Taken}
use Rattle.sig_fetch.specs.Pages.{IsPage, page_of, page_read}
use Rattle.sig_fetch.specs.Rounds.{GoesOnAfter, PagesTo, Round, Takes, lists}
use Rattle.sig_fetch.specs.Turns.{Grows, Halts}
use Rattle.sig_fetch.specs.declared.fault.FetchFault.{FetchFault}
use Rattle.sig_fetch.specs.declared.fault.FetchFault.TheVariants as faults
use Rattle.sig_fetch.proofs.Growing.{grows_none}
use Rattle.sig_fetch.proofs.Halting.{halts_none}
use Rattle.sig_fetch.proofs.Sides.{hears_none, hears_one, sends_none, sends_one}

-- ---- whose fault it is

-- a fault that is neither of the dial nor of the link
abbrev IsQuiet : FetchFault → Type 0
IsQuiet faults.NoGateway = ⊤
IsQuiet faults.Dial = ⊥
IsQuiet faults.Link = ⊥
IsQuiet (faults.Peer place) = ⊤
IsQuiet faults.Store = ⊤
IsQuiet (faults.Full n) = ⊤
IsQuiet faults.Memory = ⊤

-- a fault that isn't the node's
abbrev IsOutside : FetchFault → Type 0
IsOutside faults.NoGateway = ⊤
IsOutside faults.Dial = ⊤
IsOutside faults.Link = ⊤
IsOutside (faults.Peer place) = ⊤
IsOutside faults.Store = ⊥
IsOutside (faults.Full n) = ⊥
IsOutside faults.Memory = ⊤

-- a fault of a fetch whose peer was reached
abbrev pub IsReached : FetchFault → Type 0
IsReached faults.NoGateway = ⊥
IsReached faults.Dial = ⊤
IsReached faults.Link = ⊤
IsReached (faults.Peer place) = ⊤
IsReached faults.Store = ⊤
IsReached (faults.Full n) = ⊤
IsReached faults.Memory = ⊤

counts_quiet : (T : Type 0) (before now : ℕ) (e : FetchFault) → IsQuiet e → now ≡ before → Counts {T = T} before now (Err e)
counts_quiet T before now faults.NoGateway q h = h
counts_quiet T before now faults.Dial q h = absurd q
counts_quiet T before now faults.Link q h = absurd q
counts_quiet T before now (faults.Peer place) q h = h
counts_quiet T before now faults.Store q h = h
counts_quiet T before now (faults.Full n) q h = h
counts_quiet T before now faults.Memory q h = h

pub halts_outside : {D T : Type 0} (told : D → Bool) (faulted : D → ℕ) (node : NodeView D) (e : FetchFault) → IsOutside e → Halts {T = T} told faulted node node (Err e)
halts_outside {D} {T} told faulted node e o = halts_none told faulted node (Err e) (not_store e o) (not_full e o)
  where
    not_store : (e : FetchFault) → IsOutside e → IsErrOf {T = T} (Err e) faults.Store → ⊥
    not_store e o h = let same : e ≡ faults.Store = cc in subst IsOutside same o

    not_full : (e : FetchFault) → IsOutside e → (n : ℕ) → IsErrOf {T = T} (Err e) (faults.Full n) → ⊥
    not_full e o n h = let same : e ≡ faults.Full n = cc in subst IsOutside same o

-- the fault of a response
record IsOfPeer (e : FetchFault) : Type 0 where
  quiet : IsQuiet e
  outside : IsOutside e
  reached : IsReached e

of_peer : (place : List ℕ) (e : FetchFault) → ◌≡◌ {A = Result Sets FetchFault} (Err (faults.Peer place)) (Err e) → IsOfPeer e
of_peer place e h = let same : faults.Peer place ≡ e = cc in subst IsOfPeer same (record { quiet = tt; outside = tt; reached = tt })

of_memory : (e : FetchFault) → faults.Memory ≡ e → IsOfPeer e
of_memory e same = subst IsOfPeer same (record { quiet = tt; outside = tt; reached = tt })

of_body : (read : Result Sets BodyFault) (e : FetchFault) → page_read read ≡ Err e → IsOfPeer e
of_body (Ok sets) e h = absurd cc
of_body (Err (body.Bad member)) e h = of_peer member e h
of_body (Err body.Memory) e h = let same : faults.Memory ≡ e = cc in of_memory e same

of_status : (is : Bool) (read : Result Sets BodyFault) (e : FetchFault) → (if is then page_read read else Err (faults.Peer (codes "status"))) ≡ Err e → IsOfPeer e
of_status true read e h = of_body read e h
of_status false read e h = of_peer (codes "status") e h

of_response : (response : Response) (e : FetchFault) → (e ≡ faults.Memory) ⊎ (page_of response ≡ Err e) → IsOfPeer e
of_response response e (inl h) = of_memory e (sym h)
of_response response e (inr h) = of_status (response.status == 200) (sets_of response.body) e h

of_nothing : (e : FetchFault) → (e ≡ faults.Memory) ⊎ (◌≡◌ {A = Result Sets FetchFault} (Err (faults.Peer (codes "http"))) (Err e)) → IsOfPeer e
of_nothing e (inl h) = of_memory e (sym h)
of_nothing e (inr h) = of_peer (codes "http") e h

the_fault : (e f : FetchFault) → ◌≡◌ {A = Result Sets FetchFault} (Err e) (Err f) → f ≡ e
the_fault e f h = cc

-- a round without a page counts as its request does
pub counts_page : (T : Type 0) (answer : Result Response AskFault) (e : FetchFault) (before now : ℕ) → IsPage answer (Err e) → dialled.Counts before now answer → Counts {T = T} before now (Err e)
counts_page T (Ok response) e before now is c = counts_quiet T before now e (of_response response e is).quiet c
counts_page T (Err asked.NoResponse) e before now is c = counts_quiet T before now e (of_nothing e is).quiet c
counts_page T (Err asked.Dial) e before now is c = subst (λ (f : FetchFault). Counts {T = T} before now (Err f)) (the_fault e faults.Dial is) c
counts_page T (Err asked.Link) e before now is c = subst (λ (f : FetchFault). Counts {T = T} before now (Err f)) (the_fault e faults.Link is) c
counts_page T (Err asked.Memory) e before now is c = counts_quiet T before now e (of_memory e (the_fault e faults.Memory is)).quiet c

-- and its fault isn't the node's
pub page_outside : (answer : Result Response AskFault) (e : FetchFault) → IsPage answer (Err e) → IsOutside e
page_outside (Ok response) e is = (of_response response e is).outside
page_outside (Err asked.NoResponse) e is = (of_nothing e is).outside
page_outside (Err asked.Dial) e is = subst IsOutside (the_fault e faults.Dial is) tt
page_outside (Err asked.Link) e is = subst IsOutside (the_fault e faults.Link is) tt
page_outside (Err asked.Memory) e is = subst IsOutside (the_fault e faults.Memory is) tt

page_reached : (answer : Result Response AskFault) (e : FetchFault) → IsPage answer (Err e) → IsReached e
page_reached (Ok response) e is = (of_response response e is).reached
page_reached (Err asked.NoResponse) e is = (of_nothing e is).reached
page_reached (Err asked.Dial) e is = subst IsReached (the_fault e faults.Dial is) tt
page_reached (Err asked.Link) e is = subst IsReached (the_fault e faults.Link is) tt
page_reached (Err asked.Memory) e is = subst IsReached (the_fault e faults.Memory is) tt

-- a page comes of a response
no_page : {T : Type 0} (page : Sets) (e : FetchFault) → ◌≡◌ {A = Result Sets FetchFault} (Ok page) (Err e) → T
no_page page e h = absurd cc

pub counts_read : (answer : Result Response AskFault) (page : Sets) (before now : ℕ) → IsPage answer (Ok page) → dialled.Counts before now answer → now ≡ before
counts_read (Ok response) page before now is c = c
counts_read (Err asked.NoResponse) page before now is c = c
counts_read (Err asked.Dial) page before now is c = no_page page faults.Dial is
counts_read (Err asked.Link) page before now is c = no_page page faults.Link is
counts_read (Err asked.Memory) page before now is c = c

-- the faults of taking tokens are the node's, or memory
same_end : (P : FetchFault → Type 0) (f e : FetchFault) → P f → ◌≡◌ {A = Result ⊤ FetchFault} (Err e) (Err f) → P e
same_end P f e q h = let same : f ≡ e = cc in subst P same q

err_no_ok : (e : FetchFault) → ◌≡◌ {A = Bool} (is_ok {T = ⊤} (Err e)) true → ⊥
err_no_ok e h = cc

takes_fault : (P : FetchFault → Type 0) → P faults.Store → ((n : ℕ) → P (faults.Full n)) → P faults.Memory
    → (peer : Peer) (ls : List Listed) (ts : List RxTurn) (e : FetchFault) → Takes peer ls ts (Err e) → P e
takes_fault P store full memory peer [] ts e t = absurd (err_no_ok e t.1)
takes_fault P store full memory peer (l ∷ ls) [] e t = same_end P faults.Memory e memory t
takes_fault P store full memory peer (l ∷ ls) (turn ∷ ts) e t = by turn.result t.1 (takes_fault P store full memory peer ls ts e)
  where
    by : (r : Result RxAnswer NodeFault) → GoesOnAfter r ts (Err e) (Takes peer ls ts (Err e)) → (Takes peer ls ts (Err e) → P e) → P e
    by (Ok a) s more = more s
    by (Err node.Store) s more = same_end P faults.Store e store s.1
    by (Err (node.Full n)) s more = same_end P (faults.Full n) e (full n) s.1
    by (Err node.Memory) s more = absurd s

takes_quiet : (peer : Peer) (ls : List Listed) (ts : List RxTurn) (e : FetchFault) → Takes peer ls ts (Err e) → IsQuiet e
takes_quiet peer ls ts e t = takes_fault IsQuiet tt (λ n. tt) tt peer ls ts e t

takes_reached : (peer : Peer) (ls : List Listed) (ts : List RxTurn) (e : FetchFault) → Takes peer ls ts (Err e) → IsReached e
takes_reached peer ls ts e t = takes_fault IsReached tt (λ n. tt) tt peer ls ts e t

pub counts_taken : (T : Type 0) (peer : Peer) (ls : List Listed) (ts : List RxTurn) (e : FetchFault) (before now : ℕ) → Takes peer ls ts (Err e) → now ≡ before → Counts {T = T} before now (Err e)
counts_taken T peer ls ts e before now t h = counts_quiet T before now e (takes_quiet peer ls ts e t) h

-- ---- what became of the side and of the node

-- the request was the poll of this ask
pub as_poll : (peer : Peer) (ask : PollAsk) (place : Place) (request : Request) (english : Bool) (answer : Result Response AskFault) (old new : Option (List Sent))
    → request ≡ poll_of peer ask → english ≡ reports ask.errors → dialled.Sends place (request_spelling peer.endpoint.place request poll_kind english) old new answer
    → dialled.Sends place (poll_text peer ask) old new answer
as_poll peer ask place request english answer old new is says s =
    subst (λ (b : Bool). dialled.Sends place (request_spelling peer.endpoint.place (poll_of peer ask) poll_kind b) old new answer) says
    (subst (λ (r : Request). dialled.Sends place (request_spelling peer.endpoint.place r poll_kind english) old new answer) is s)

-- what a request over a link of its own ensures
pub record Asked (peer : Peer) (ask : PollAsk) (answer : Result Response AskFault) (ahead ahead' : Option (List LinkPlan)) (sent sent' : Option (List Sent)) : Type 0 where
  pub place : Place
  pub leads : place_of peer ≡ Some place
  pub sends : dialled.Sends place (poll_text peer ask) sent sent' answer
  pub hears : dialled.Hears ahead ahead' answer

made_one : {D : Type 0} (peer : Peer) (ask : PollAsk) (answer : Result Response AskFault) (turns : List RxTurn) (ahead ahead' : Option (List LinkPlan)) (sent sent' : Option (List Sent)) (old new : NodeView D)
    → Asked peer ask answer ahead ahead' sent sent' → Grows turns old new → Made peer (record { ask = ask; answer = answer; turns = turns } ∷ []) ahead ahead' sent sent' old new
made_one peer ask answer turns ahead ahead' sent sent' old new a g =
    let r : Round = record { ask = ask; answer = answer; turns = turns } in
    record {
      sends = sends_one peer r a.place a.leads sent sent' a.sends;
      hears = hears_one r ahead ahead' a.hears;
      grows = subst (λ (l : List RxTurn). Grows l old new) (sym (append-nil turns)) g;
    }

-- memory ran out before the request
pub goes_starved : {D : Type 0} (peer : Peer) (ask : PollAsk) (ahead : Option (List LinkPlan)) (sent : Option (List Sent)) (before : List RxTurn) (node : NodeView D) → Goes peer ask ahead ahead sent sent before before node node (Err faults.Memory)
goes_starved peer ask ahead sent before node = record {
  round = None;
  is = refl;
  made = record { sends = sends_none peer sent; hears = hears_none ahead; grows = grows_none node };
  gathers = sym (append-nil before);
}

-- there was no page
pub goes_unread : {D : Type 0} (peer : Peer) (ask : PollAsk) (answer : Result Response AskFault) (e : FetchFault) (ahead ahead' : Option (List LinkPlan)) (sent sent' : Option (List Sent)) (before : List RxTurn) (node : NodeView D)
    → Asked peer ask answer ahead ahead' sent sent' → IsPage answer (Err e) → Goes peer ask ahead ahead' sent sent' before before node node (Err e)
goes_unread peer ask answer e ahead ahead' sent sent' before node a is = record {
  round = Some (record { ask = ask; answer = answer; turns = [] });
  is = record { asks = refl; page = Err e; reads = is; takes = (refl, refl) };
  made = made_one peer ask answer [] ahead ahead' sent sent' node node a (grows_none node);
  gathers = sym (append-nil before);
}

-- the node ended it within the page
pub goes_halted : {D : Type 0} (peer : Peer) (ask : PollAsk) (answer : Result Response AskFault) (page : Sets) (e : FetchFault) (ahead ahead' : Option (List LinkPlan)) (sent sent' : Option (List Sent)) (before gathered : List RxTurn) (old new : NodeView D)
    → Asked peer ask answer ahead ahead' sent sent' → IsPage answer (Ok page) → Taken peer page.tokens before gathered old new (Err e) → Goes peer ask ahead ahead' sent sent' before gathered old new (Err e)
goes_halted peer ask answer page e ahead ahead' sent sent' before gathered old new a is t = record {
  round = Some (record { ask = ask; answer = answer; turns = t.turns });
  is = record { asks = refl; page = Ok page; reads = is; takes = (t.takes, tt) };
  made = made_one peer ask answer t.turns ahead ahead' sent sent' old new a t.grows;
  gathers = t.gathers ∙ ap (λ (ts : List RxTurn). before ++ ts) (sym (append-nil t.turns));
}

-- all of the page was taken
pub goes_whole : {D : Type 0} (peer : Peer) (ask : PollAsk) (answer : Result Response AskFault) (page : Sets) (listed : Bool) (ahead ahead' : Option (List LinkPlan)) (sent sent' : Option (List Sent)) (before gathered : List RxTurn) (old new : NodeView D)
    → Asked peer ask answer ahead ahead' sent sent' → IsPage answer (Ok page) → Taken peer page.tokens before gathered old new (Ok tt) → listed ≡ lists page.tokens
    → Goes peer ask ahead ahead' sent sent' before gathered old new (Ok listed)
goes_whole peer ask answer page listed ahead ahead' sent sent' before gathered old new a is t says = record {
  round = Some (record { ask = ask; answer = answer; turns = t.turns });
  is = record { asks = refl; page = Ok page; reads = is; takes = (t.takes, says) };
  made = made_one peer ask answer t.turns ahead ahead' sent sent' old new a t.grows;
  gathers = t.gathers ∙ ap (λ (ts : List RxTurn). before ++ ts) (sym (append-nil t.turns));
}

-- and its fault isn't that a gateway was missing
the_end : {e f : FetchFault} → ◌≡◌ {A = Result Bool FetchFault} (Err e) (Err f) → f ≡ e
the_end h = cc

pub goes_reached : {D : Type 0} (peer : Peer) (ask : PollAsk) (e : FetchFault) (ahead ahead' : Option (List LinkPlan)) (sent sent' : Option (List Sent)) (before gathered : List RxTurn) (old new : NodeView D)
    → Goes peer ask ahead ahead' sent sent' before gathered old new (Err e) → IsReached e
goes_reached peer ask e ahead ahead' sent sent' before gathered old new g = by_round g.round g.is
  where
    by_page : (answer : Result Response AskFault) (turns : List RxTurn) (page : Result Sets FetchFault) → IsPage answer page → PagesTo peer page turns (Err e) → IsReached e
    by_page answer turns (Err f) is t = subst IsReached (the_end t.1) (page_reached answer f is)
    by_page answer turns (Ok page) is t = takes_reached peer page.tokens turns e t.0

    by_round : (o : Option Round) → IsRoundOrNone peer ask o (Err e) → IsReached e
    by_round None is = subst IsReached (the_end is) tt
    by_round (Some r) is = by_page r.answer r.turns is.page is.reads is.takes
