-- What a run of `fetch` comes to, as the outside tells it.
use Rattle.std.specs.Prelude.{◌≡◌, ◌≢◌, ◌⊎◌, ◌<◌, ℕ, List, [], All, Bool, true, false, length, IfOk, IsErrOf, Option, Some, Result, Ok, Err}
use Rattle.sig_json.specs.Answers.{result_map}
use Rattle.sig_json.specs.declared.limits.TheConstants.{LAST_NUMBER}
use Rattle.sig_fetch.specs.Fetching as fetching
use Rattle.sig_fetch.specs.Rounds.{HearsAll, Polls, Round, SendsAll, turns_of}
use Rattle.sig_fetch.specs.Turns.{AreAnswered}
use Rattle.sig_fetch.specs.declared.fault.FetchFault.{FetchFault}
use Rattle.sig_fetch.specs.declared.fault.FetchFault.TheVariants as fault
use Rattle.sig_fetch.specs.declared.fetched.Fetched.{Fetched}
use Rattle.sig_inbox.specs.Pairs.{has_pair}
use Rattle.sig_receiver.specs.Receiver.{Received, received_of}
use Rattle.sig_outside.specs.Causes.{Rose}
use Rattle.sig_rxnode.specs.Node.{NodeView, files_told}
use Rattle.sig_rxnode.specs.Turns.{changes_of}
use Rattle.sig_rxnode.specs.declared.rules.Peer.{Peer}
use Rattle.sig_links.specs.Views.{SideView}
use Rattle.sig_opening.specs.Files.{IfBoth}
use Rattle.sig_opening.specs.declared.unopened.Unopened.{Unopened}
use Rattle.sig_opening.specs.declared.unopened.Unopened.TheVariants as unopened
use Rattle.sig_opening.specs.declared.unread.Unread.{Unread}
use Rattle.sig_opening.specs.declared.unread.Unread.TheVariants as unread
use Rattle.sig_receive.specs.Closing.{PutsBack}
use Rattle.sig_receive.specs.Ends.{StandsForState}
use Rattle.sig_receive.specs.Peers.{FetchSettings, SaysFetch}
use Rattle.sig_receive.specs.Sides.{Beside, HasSide, NoFetch, Sides}
use Rattle.sig_receive.specs.declared.ending.FetchEnd.{FetchEnd}
use Rattle.sig_receive.specs.declared.ending.FetchEnd.TheVariants.{Done, SettingsFailed, Refused, NoStore, StoreFailed, Damaged, NetworkFailed, Full, Peer as PeerEnd, Memory}

-- ---- its ends

-- the end where no settings were read, or no node was loaded, for this cause
abbrev pub of_unread : Unread → FetchEnd
of_unread unread.Failed = SettingsFailed
of_unread (unread.Refused member) = Refused member
of_unread unread.Memory = Memory

abbrev pub of_unopened : Unopened → FetchEnd
of_unopened unopened.Missing = NoStore
of_unopened unopened.Failed = StoreFailed
of_unopened (unopened.Damaged file at) = Damaged file at
of_unopened unopened.Memory = Memory

-- the rounds ended so
abbrev pub EndsFetch : Result Fetched FetchFault → FetchEnd → Type 0
EndsFetch (Ok fetched) end = end ≡ Done fetched
EndsFetch (Err fault.NoGateway) end = ⊥
EndsFetch (Err fault.Dial) end = end ≡ NetworkFailed
EndsFetch (Err fault.Link) end = end ≡ NetworkFailed
EndsFetch (Err (fault.Peer place)) end = end ≡ PeerEnd place
EndsFetch (Err fault.Store) end = end ≡ StoreFailed
EndsFetch (Err (fault.Full n)) end = end ≡ Full n
EndsFetch (Err fault.Memory) end = end ≡ Memory

-- whether a node is broken after rounds that ended so: exactly where its store failed
abbrev pub fails_by : Result Fetched FetchFault → Bool
fails_by (Ok fetched) = false
fails_by (Err fault.NoGateway) = false
fails_by (Err fault.Dial) = false
fails_by (Err fault.Link) = false
fails_by (Err (fault.Peer place)) = false
fails_by (Err fault.Store) = true
fails_by (Err (fault.Full n)) = false
fails_by (Err fault.Memory) = false

-- an end before the first round, or after
abbrev pub ByFetch : FetchEnd → Type 0 → Type 0 → Type 0
ByFetch (Done fetched) none run = run
ByFetch SettingsFailed none run = none
ByFetch (Refused member) none run = none
ByFetch NoStore none run = none
ByFetch StoreFailed none run = none ⊎ run
ByFetch (Damaged file at) none run = none
ByFetch NetworkFailed none run = run
ByFetch (Full n) none run = run
ByFetch (PeerEnd place) none run = run
ByFetch Memory none run = none ⊎ run

-- a fetch that came to no round can end so
abbrev pub IsEndBefore : FetchEnd → Type 0
IsEndBefore (Done fetched) = ⊥
IsEndBefore SettingsFailed = Unit {0}
IsEndBefore (Refused member) = Unit {0}
IsEndBefore NoStore = Unit {0}
IsEndBefore StoreFailed = Unit {0}
IsEndBefore (Damaged file at) = Unit {0}
IsEndBefore NetworkFailed = ⊥
IsEndBefore (Full n) = ⊥
IsEndBefore (PeerEnd place) = ⊥
IsEndBefore Memory = Unit {0}

-- where a file of the store isn't there, no round began, and the fetch ends as one that came to none
abbrev pub UnlessThere : Option Bool → Option Bool → FetchEnd → Beside → Beside → Type 0
UnlessThere a b end old new = ((a ≡ Some false) ⊎ (b ≡ Some false)) → IsEndBefore end × NoFetch old new

-- ---- the run

-- each identifier that a round acknowledges has its pair with the peer's issuer among those that are kept
abbrev pub AcksAreKept : Peer → Received → Round → Type 0
AcksAreKept peer state round = All (λ (jti : List ℕ). has_pair (record { iss = peer.iss; jti = jti }) state.pairs ≡ true) round.ask.acks

-- at most so many rounds were made of a peer over a side, from what is kept to that with these texts, and ended so (RFC 8936,
-- sections 2.4 and 2.5): the links that were sent and heard are theirs, each turn is answered as the table says, the texts
-- are those that the turns add, and what is acknowledged is kept
pub record Rounds (said : FetchSettings) (asked : ℕ) (first last : SideView) (before : Received) (texts : List (List ℕ)) (result : Result Fetched FetchFault) : Type 0 where
  pub rounds : List Round
  pub polls : Polls said.peer asked [] rounds (result_map (λ fetched. tt) result)
  pub counts : IfOk result (λ fetched. fetched.rounds ≡ length rounds)
  pub tallies : IfOk result (λ fetched. fetching.AreCounted (turns_of rounds) fetched × (length texts ≡ fetched.accepted))
  pub sends : SendsAll said.peer rounds first.sent last.sent
  pub hears : HearsAll rounds first.ahead last.ahead
  pub times : last.times ≡ first.times
  pub answers : AreAnswered said.said.rules.trust before (turns_of rounds)
  pub adds : texts ≡ changes_of said.said.rules.trust before (turns_of rounds)
  pub acknowledged : All (AcksAreKept said.peer (received_of before texts)) rounds
  pub full : (n : ℕ) → IsErrOf result (fault.Full n) → LAST_NUMBER < n

-- the store was opened, and told one state; a side was taken; rounds were made over it from that state; and the store was put
-- back with that state and the texts of them all
pub record Fetch (said : FetchSettings) (end : FetchEnd) (asked : ℕ) (old new : Beside) : Type 0 where
  pub before : Received
  pub opened : StandsForState old.a old.b before
  pub first : SideView
  pub last : SideView
  pub side : HasSide old.sides new.sides first last
  pub texts : List (List ℕ)
  pub result : Result Fetched FetchFault
  pub rounds : Rounds said asked first last before texts result
  pub ends : EndsFetch result end
  pub back : IfBoth new.a new.b (PutsBack (fails_by result) (received_of before texts))

-- ---- on the way

-- a fault of the rounds is one of the network
abbrev pub CountsNetwork : Result Fetched FetchFault → ℕ → ℕ → Type 0
CountsNetwork (Ok fetched) before now = Unit {0}
CountsNetwork (Err fault.NoGateway) before now = Unit {0}
CountsNetwork (Err fault.Dial) before now = Rose before now
CountsNetwork (Err fault.Link) before now = Rose before now
CountsNetwork (Err (fault.Peer place)) before now = Unit {0}
CountsNetwork (Err fault.Store) before now = Unit {0}
CountsNetwork (Err (fault.Full n)) before now = Unit {0}
CountsNetwork (Err fault.Memory) before now = Unit {0}

-- rounds were made over a side that was taken and given back, by a node whose files are told as before
pub record MakesRounds {D : Type 0} (told : D → Bool) (peer : Peer) (asked : ℕ) (old new : Sides) (before after : NodeView D) (result : Result Fetched FetchFault) : Type 0 where
  pub first : SideView
  pub last : SideView
  pub side : HasSide old new first last
  pub fetches : fetching.Fetches peer asked first.ahead last.ahead first.sent last.sent before after (result_map (λ f. f.rounds) result)
  pub reached : result ≢ Err fault.NoGateway
  pub tallies : IfOk result (fetching.Tallies before after)
  pub times : last.times ≡ first.times
  pub full : (n : ℕ) → IsErrOf result (fault.Full n) → LAST_NUMBER < n
  pub files : files_told told after ≡ files_told told before

-- ---- all of it

-- no round began; or there was a fetch by these settings
abbrev pub Fetches : FetchSettings → FetchEnd → ℕ → Beside → Beside → Type 0
Fetches said end asked old new = ByFetch end (NoFetch old new) (Fetch said end asked old new)

-- the same by settings that say so, where they are told
abbrev pub FetchesBy : Option (List ℕ) → FetchEnd → ℕ → Beside → Beside → Type 0
FetchesBy told end asked old new = ByFetch end (NoFetch old new) ((said : FetchSettings) × SaysFetch told said × Fetch said end asked old new)
