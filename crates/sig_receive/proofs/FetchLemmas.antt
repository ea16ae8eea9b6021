-- A fetch between the store that is opened and the one that is put back.
use Rattle.std.proofs.Common.{◌≡◌, ◌≢◌, ◌∙◌, ℕ, Bool, true, false, List, [], ◌++◌, length, drop, Option, None, Result, Ok, Err, inl, inr, refl, sym, ap, subst, arith, length-append}
use Rattle.std.specs.Prelude.{All, IfOk, IsSome, is_some, ⊤}
use Rattle.std.proofs.lemmas.List.{drop_at}
use Rattle.sig_json.specs.Answers.{result_map}
use Rattle.sig_fetch.specs.Fetching as fetching
use Rattle.sig_fetch.specs.Rounds.{Polls, Round, turns_of}
use Rattle.sig_fetch.specs.Turns.{AreAnswered, Halts}
use Rattle.sig_fetch.specs.declared.fault.FetchFault.{FetchFault}
use Rattle.sig_fetch.specs.declared.fault.FetchFault.TheVariants as fault
use Rattle.sig_fetch.specs.declared.fetched.Fetched.{Fetched}
use Rattle.sig_links.specs.Told.{Begins, Gathers, HandsNext, LendsSide, SideEnd, SidePlan, TakesBack, side_end, stored}
use Rattle.sig_outside.specs.Causes.{Rose}
use Rattle.sig_receiver.specs.Receiver.{Received, received_of}
use Rattle.sig_rxnode.specs.Node.{NodeView, files_told, first_file, second_file}
use Rattle.sig_rxnode.specs.Turns.{changes_of}
use Rattle.sig_rxnode.specs.declared.rules.Peer.{Peer}
use Rattle.sig_rxnode.specs.declared.rules.RxRules.{RxRules}
use Rattle.sig_rxnode.specs.declared.turn.RxTurn.{RxTurn}
use Rattle.sig_links.specs.Views.{SideView}
use Rattle.sig_journal.specs.Store.{pick}
use Rattle.sig_journal.specs.Appended.{WritesOne}
use Rattle.sig_opening.specs.Ends.{BreaksBy}
use Rattle.sig_opening.specs.Files.{IfBoth}
use Rattle.sig_opening.proofs.DoorLemmas.{risen_more}
use Rattle.sig_opening.proofs.FilesLemmas.{both_stay, both_with}
use Rattle.sig_receive.specs.Closing.{FilesTell, PutsBack}
use Rattle.sig_receive.specs.Fetching.{AcksAreKept, ByFetch, CountsNetwork, EndsFetch, Fetch, Fetches, FetchesBy, MakesRounds, Rounds, fails_by}
use Rattle.sig_receive.specs.Opening.{Opens}
use Rattle.sig_receive.specs.Peers.{FetchSettings, SaysFetch}
use Rattle.sig_receive.specs.Sides.{Beside, HasSide, NoFetch, Sides, beside, sides_of}
use Rattle.sig_receive.specs.declared.ending.FetchEnd.{FetchEnd}
use Rattle.sig_receive.specs.declared.ending.FetchEnd.TheVariants.{Done, SettingsFailed, Refused, NoStore, StoreFailed, Damaged, NetworkFailed, Full, Peer as PeerEnd, Memory}
use Rattle.sig_receive.proofs.RoundLemmas.{beside_same, side_back, turns_come_to}

-- ---- what rounds leave of a node

-- the node is broken exactly where they ended with its store
pub breaks_by : {D : Type 0} (told : D → Bool) (faults : D → ℕ) (old new : NodeView D) (result : Result Fetched FetchFault) → old.kept.store.broken_at ≡ None → Halts told faults old new result
    → BreaksBy (fails_by result) new.kept.store.broken_at
breaks_by told faults old new (Ok fetched) whole h = h.whole (λ is. absurd cc) ∙ whole
breaks_by told faults old new (Err fault.NoGateway) whole h = h.whole (λ is. absurd cc) ∙ whole
breaks_by told faults old new (Err fault.Dial) whole h = h.whole (λ is. absurd cc) ∙ whole
breaks_by told faults old new (Err fault.Link) whole h = h.whole (λ is. absurd cc) ∙ whole
breaks_by told faults old new (Err (fault.Peer place)) whole h = h.whole (λ is. absurd cc) ∙ whole
breaks_by told faults old new (Err (fault.Full n)) whole h = h.whole (λ is. absurd cc) ∙ whole
breaks_by told faults old new (Err fault.Memory) whole h = h.whole (λ is. absurd cc) ∙ whole
breaks_by told faults old new (Err fault.Store) whole h =
    elim (h.store refl) as (λ x. is_some new.kept.store.broken_at ≡ true) [
      | inl before ↦ absurd (none_some old.kept.store.broken_at whole before)
      | inr breaks ↦ ap (λ (o : Option ℕ). is_some o) breaks.at
    ]
  where
    none_some : (o : Option ℕ) → o ≡ None → is_some o ≡ true → ⊥
    none_some o none some = cc

written_told : {D : Type 0} (told : D → Bool) (in_b : Bool) (written written' other other' : D) → told written' ≡ told written → other' ≡ other
    → ◌≡◌ {A = Bool × Bool} (told (pick in_b written' other'), told (pick in_b other' written')) (told (pick in_b written other), told (pick in_b other written))
written_told told true written written' other other' same others = λ i. (told (others i), same i)
written_told told false written written' other other' same others = λ i. (same i, told (others i))

-- its files are told as before
pub files_kept : {D : Type 0} (told : D → Bool) (old new : NodeView D) → WritesOne told old.kept.store.journal new.kept.store.journal → files_told told new ≡ files_told told old
files_kept told old new h =
    ap (λ (b : Bool). (told (pick b new.kept.store.journal.written new.kept.store.journal.other), told (pick b new.kept.store.journal.other new.kept.store.journal.written))) h.in_b
    ∙ written_told told old.kept.store.journal.in_b old.kept.store.journal.written new.kept.store.journal.written old.kept.store.journal.other new.kept.store.journal.other h.told_same h.other

-- ---- over a side

-- a side that was taken and given back
has_side : (ahead taken ahead' : Option (List SidePlan)) (back between back' : Option (List SideEnd)) (out lent now : ℕ) (first last : SideView)
    → HandsNext ahead taken first.ahead first.times → ahead' ≡ taken → Begins back first.sent → first.faults ≡ 0 → between ≡ back
    → LendsSide ahead back out lent → TakesBack between back' lent now (side_end last.ahead last.times last.sent)
    → HasSide (sides_of ahead back) (sides_of ahead' back') first last
has_side ahead taken ahead' back between back' out lent now first last next same begins whole back_same lends takes = record {
  next = subst (λ (s : Option (List SidePlan)). HandsNext ahead s first.ahead first.times) (sym same) next;
  begins = begins;
  whole = whole;
  gives_back = side_back ahead back back' out lent now (side_end last.ahead last.times last.sent) lends (subst (λ (b : Option (List SideEnd)). TakesBack b back' lent now (side_end last.ahead last.times last.sent)) back_same takes);
}

-- rounds over a side that was taken and given back
pub makes_rounds : {D : Type 0} (told : D → Bool) (faults : D → ℕ) (peer : Peer) (asked : ℕ) (ahead taken ahead' : Option (List SidePlan)) (back between back' : Option (List SideEnd)) (out lent now : ℕ) (first last : SideView)
    → (before after : NodeView D) (result : Result Fetched FetchFault)
    → HandsNext ahead taken first.ahead first.times → ahead' ≡ taken → Begins back first.sent → first.faults ≡ 0 → between ≡ back
    → LendsSide ahead back out lent → TakesBack between back' lent now (side_end last.ahead last.times last.sent)
    → fetching.Fetches peer asked first.ahead last.ahead first.sent last.sent before after (result_map (λ (f : Fetched). f.rounds) result)
    → result ≢ Err fault.NoGateway → IfOk result (fetching.Tallies before after) → last.times ≡ first.times → Halts told faults before after result
    → MakesRounds told peer asked (sides_of ahead back) (sides_of ahead' back') before after result
makes_rounds told faults peer asked ahead taken ahead' back between back' out lent now first last before after result next same begins whole back_same lends takes fetches reached tallies times halts = record {
  first = first;
  last = last;
  side = has_side ahead taken ahead' back between back' out lent now first last next same begins whole back_same lends takes;
  fetches = fetches;
  reached = reached;
  tallies = tallies;
  times = times;
  full = λ n ended. (halts.full n ended).passes.past;
  files = files_kept told before after halts.files;
}

-- ---- the network

-- the faults of a side that met none before are the outside's, once it is given back
pub counts_network : (result : Result Fetched FetchFault) (first met before between now : ℕ) → first ≡ 0 → between ≡ before → fetching.Counts first met result → Gathers between now met → CountsNetwork result before now
counts_network (Ok fetched) first met before between now none same counts gathers = tt
counts_network (Err fault.NoGateway) first met before between now none same counts gathers = tt
counts_network (Err fault.Dial) first met before between now none same counts gathers = risen_more before between now met same (omega (arith, none, counts.1)) gathers
counts_network (Err fault.Link) first met before between now none same counts gathers = risen_more before between now met same (omega (arith, none, counts.1)) gathers
counts_network (Err (fault.Peer place)) first met before between now none same counts gathers = tt
counts_network (Err fault.Store) first met before between now none same counts gathers = tt
counts_network (Err (fault.Full n)) first met before between now none same counts gathers = tt
counts_network (Err fault.Memory) first met before between now none same counts gathers = tt

-- ---- by the end

-- an end of rounds
abbrev pub IsEndOfRounds : FetchEnd → Type 0
IsEndOfRounds (Done fetched) = Unit {0}
IsEndOfRounds SettingsFailed = ⊥
IsEndOfRounds (Refused member) = ⊥
IsEndOfRounds StoreFailed = Unit {0}
IsEndOfRounds NoStore = ⊥
IsEndOfRounds (Damaged file at) = ⊥
IsEndOfRounds NetworkFailed = Unit {0}
IsEndOfRounds (Full n) = Unit {0}
IsEndOfRounds (PeerEnd place) = Unit {0}
IsEndOfRounds Memory = Unit {0}

end_of_rounds : (result : Result Fetched FetchFault) (end : FetchEnd) → EndsFetch result end → IsEndOfRounds end
end_of_rounds (Ok fetched) end is = subst IsEndOfRounds (sym is) tt
end_of_rounds (Err fault.NoGateway) end is = absurd is
end_of_rounds (Err fault.Dial) end is = subst IsEndOfRounds (sym is) tt
end_of_rounds (Err fault.Link) end is = subst IsEndOfRounds (sym is) tt
end_of_rounds (Err (fault.Peer place)) end is = subst IsEndOfRounds (sym is) tt
end_of_rounds (Err fault.Store) end is = subst IsEndOfRounds (sym is) tt
end_of_rounds (Err (fault.Full n)) end is = subst IsEndOfRounds (sym is) tt
end_of_rounds (Err fault.Memory) end is = subst IsEndOfRounds (sym is) tt

pub rounds_other : (result : Result Fetched FetchFault) (end other : FetchEnd) → EndsFetch result end → (IsEndOfRounds other → ⊥) → end ≡ other → ⊥
rounds_other result end other ends not is = not (subst IsEndOfRounds is (end_of_rounds result end ends))

-- they ended with a store that failed, or with the network
pub rounds_store : (result : Result Fetched FetchFault) (end : FetchEnd) (broken_at : Option ℕ) → EndsFetch result end → end ≡ StoreFailed → BreaksBy (fails_by result) broken_at → is_some broken_at ≡ true
rounds_store (Ok fetched) end broken_at ends is h = absurd cc
rounds_store (Err fault.NoGateway) end broken_at ends is h = absurd ends
rounds_store (Err fault.Dial) end broken_at ends is h = absurd cc
rounds_store (Err fault.Link) end broken_at ends is h = absurd cc
rounds_store (Err (fault.Peer place)) end broken_at ends is h = absurd cc
rounds_store (Err fault.Store) end broken_at ends is h = h
rounds_store (Err (fault.Full n)) end broken_at ends is h = absurd cc
rounds_store (Err fault.Memory) end broken_at ends is h = absurd cc

pub rounds_network : (result : Result Fetched FetchFault) (end : FetchEnd) (before now : ℕ) → EndsFetch result end → end ≡ NetworkFailed → CountsNetwork result before now → Rose before now
rounds_network (Ok fetched) end before now ends is h = absurd cc
rounds_network (Err fault.NoGateway) end before now ends is h = absurd ends
rounds_network (Err fault.Dial) end before now ends is h = h
rounds_network (Err fault.Link) end before now ends is h = h
rounds_network (Err (fault.Peer place)) end before now ends is h = absurd cc
rounds_network (Err fault.Store) end before now ends is h = absurd cc
rounds_network (Err (fault.Full n)) end before now ends is h = absurd cc
rounds_network (Err fault.Memory) end before now ends is h = absurd cc

fetch_end : (end : FetchEnd) (none run : Type 0) → IsEndOfRounds end → run → ByFetch end none run
fetch_end (Done fetched) none run kind h = h
fetch_end SettingsFailed none run kind h = absurd kind
fetch_end (Refused member) none run kind h = absurd kind
fetch_end StoreFailed none run kind h = inr h
fetch_end NoStore none run kind h = absurd kind
fetch_end (Damaged file at) none run kind h = absurd kind
fetch_end NetworkFailed none run kind h = h
fetch_end (Full n) none run kind h = h
fetch_end (PeerEnd place) none run kind h = h
fetch_end Memory none run kind h = inr h

pub by_fetch : (end : FetchEnd) (none run run' : Type 0) → (run → run') → ByFetch end none run → ByFetch end none run'
by_fetch (Done fetched) none run run' f h = f h
by_fetch SettingsFailed none run run' f h = h
by_fetch (Refused member) none run run' f h = h
by_fetch StoreFailed none run run' f (inl h) = inl h
by_fetch StoreFailed none run run' f (inr h) = inr (f h)
by_fetch NoStore none run run' f h = h
by_fetch (Damaged file at) none run run' f h = h
by_fetch NetworkFailed none run run' f h = f h
by_fetch (Full n) none run run' f h = f h
by_fetch (PeerEnd place) none run run' f h = f h
by_fetch Memory none run run' f (inl h) = inl h
by_fetch Memory none run run' f (inr h) = inr (f h)

-- ---- the rounds, by what is kept

-- these rounds were made of a peer that is reached
polls_of : (peer : Peer) (asked : ℕ) (rounds : List Round) (result : Result Fetched FetchFault) → result ≢ Err fault.NoGateway
    → fetching.PollsIfReached peer asked rounds (result_map (λ made. tt) (result_map (λ (f : Fetched). f.rounds) result)) → Polls peer asked [] rounds (result_map (λ (f : Fetched). tt) result)
polls_of peer asked rounds (Ok fetched) not (inl none) = absurd cc
polls_of peer asked rounds (Ok fetched) not (inr polls) = polls
polls_of peer asked rounds (Err cause) not (inl none) = absurd (not (gateway cause none.0))
  where
    gateway : (cause : FetchFault) → ◌≡◌ {A = Result ⊤ FetchFault} (Err cause) (Err fault.NoGateway) → ◌≡◌ {A = Result Fetched FetchFault} (Err cause) (Err fault.NoGateway)
    gateway cause is = let same : cause ≡ fault.NoGateway = cc in ap (λ (f : FetchFault). Err f) same
polls_of peer asked rounds (Err cause) not (inr polls) = polls

counts_of : (rounds : List Round) (result : Result Fetched FetchFault) → IfOk (result_map (λ (f : Fetched). f.rounds) result) (λ made. made ≡ length rounds) → IfOk result (λ f. f.rounds ≡ length rounds)
counts_of rounds (Ok fetched) h = h
counts_of rounds (Err fault) h = tt

tallies_of : {D : Type 0} (old new : NodeView D) (turns : List RxTurn) (texts : List (List ℕ)) (result : Result Fetched FetchFault) → new.turns ≡ old.turns ++ turns → new.kept.entries ≡ old.kept.entries ++ texts
    → IfOk result (fetching.Tallies old new) → IfOk result (λ fetched. fetching.AreCounted turns fetched × (length texts ≡ fetched.accepted))
tallies_of old new turns texts (Ok fetched) more added h = (
  subst (λ (ts : List RxTurn). fetching.AreCounted ts fetched) (ap (drop (length old.turns)) more ∙ drop_at old.turns turns (length old.turns) refl) h.turns,
  omega (arith, h.texts, ap (λ (es : List (List ℕ)). length es) added, length-append old.kept.entries texts),
)
tallies_of old new turns texts (Err fault) more added h = tt

-- rounds over a node, as rounds from what is kept to that with their texts
pub rounds_kept : {D : Type 0} (told : D → Bool) (said : FetchSettings) (asked : ℕ) (old new : Sides) (node node' : NodeView D) (result : Result Fetched FetchFault) → node.rules ≡ said.said.rules
    → (m : MakesRounds told said.peer asked old new node node' result)
    → (texts : List (List ℕ)) × (node'.kept.state ≡ received_of node.kept.state texts) × Rounds said asked m.first m.last node.kept.state texts result
rounds_kept told said asked old new node node' result rules m =
    let rounds = m.fetches.rounds in
    let turns = turns_of rounds in
    let grows = m.fetches.made.grows in
    let texts : List (List ℕ) = changes_of node.rules.trust node.kept.state turns in
    let state : node'.kept.state ≡ received_of node.kept.state texts = grows.state ∙ turns_come_to node.rules.trust turns node.kept.state in (
      texts,
      state,
      record {
        rounds = rounds;
        polls = polls_of said.peer asked rounds result m.reached m.fetches.polls;
        counts = counts_of rounds result m.fetches.counts;
        tallies = tallies_of node node' turns texts result grows.turns grows.entries m.tallies;
        sends = m.fetches.made.sends;
        hears = m.fetches.made.hears;
        times = m.times;
        answers = subst (λ (r : RxRules). AreAnswered r.trust node.kept.state turns) rules grows.answers;
        adds = ap (λ (r : RxRules). changes_of r.trust node.kept.state turns) rules;
        acknowledged = subst (λ (s : Received). All (AcksAreKept said.peer s) rounds) state m.fetches.acknowledged;
        full = m.full;
      },
    )

-- ---- all of it

-- rounds over a side, by other names of the sides
pub at_sides : {D : Type 0} (told : D → Bool) (peer : Peer) (asked : ℕ) (old old' new new' : Sides) (node node' : NodeView D) (result : Result Fetched FetchFault) → old ≡ old' → new ≡ new'
    → MakesRounds told peer asked old new node node' result → MakesRounds told peer asked old' new' node node' result
at_sides told peer asked old old' new new' node node' result p q makes =
    subst (λ (s : Sides). MakesRounds told peer asked s new' node node' result) p (subst (λ (s : Sides). MakesRounds told peer asked old s node node' result) q makes)

-- both files of a store that was told are told again
pub stays_told : {D : Type 0} (told : D → Bool) (seen : D → List ℕ) (rules : RxRules) (peer : Peer) (asked : ℕ) (sides sides' : Sides) (a b a' b' : Option (List ℕ)) (node node' : NodeView D) (result : Result Fetched FetchFault)
    → Opens told seen rules a b node → MakesRounds told peer asked sides sides' node node' result
    → a' ≡ stored (told (first_file node')) (seen (first_file node')) → b' ≡ stored (told (second_file node')) (seen (second_file node'))
    → (IsSome a → IsSome a') × (IsSome b → IsSome b')
stays_told told seen rules peer asked sides sides' a b a' b' node node' result opens makes is_a is_b =
    both_stay told seen a b a' b' (first_file node) (second_file node) (first_file node') (second_file node') opens.file_a opens.file_b makes.files is_a is_b

-- a fetch over a store that was opened and put back
pub fetches_store : {D : Type 0} (told : D → Bool) (seen : D → List ℕ) (said : FetchSettings) (end : FetchEnd) (asked : ℕ) (sides sides' : Sides) (a b a' b' : Option (List ℕ)) (node node' : NodeView D) (result : Result Fetched FetchFault)
    → Opens told seen said.said.rules a b node → MakesRounds told said.peer asked sides sides' node node' result → EndsFetch result end
    → BreaksBy (fails_by result) node'.kept.store.broken_at → FilesTell told seen node'
    → a' ≡ stored (told (first_file node')) (seen (first_file node')) → b' ≡ stored (told (second_file node')) (seen (second_file node'))
    → Fetches said end asked (record { a = a; b = b; sides = sides }) (record { a = a'; b = b'; sides = sides' })
fetches_store told seen said end asked sides sides' a b a' b' node node' result opens makes ends broken kept is_a is_b =
    let old : Beside = record { a = a; b = b; sides = sides } in
    let new : Beside = record { a = a'; b = b'; sides = sides' } in
    let done = rounds_kept told said asked sides sides' node node' result opens.rules_same makes in
    let fetch : Fetch said end asked old new = record {
      before = node.kept.state;
      opened = opens.state;
      first = makes.first;
      last = makes.last;
      side = makes.side;
      texts = done.0;
      result = result;
      rounds = done.2;
      ends = ends;
      back = subst (λ (s : Received). IfBoth a' b' (PutsBack (fails_by result) s)) done.1
          (both_with a' b' (stored (told (first_file node')) (seen (first_file node'))) (stored (told (second_file node')) (seen (second_file node'))) (PutsBack (fails_by result) node'.kept.state) is_a is_b (kept (fails_by result) broken));
    } in
    fetch_end end (NoFetch old new) (Fetch said end asked old new) (end_of_rounds result end ends) fetch

-- by settings that are told
pub fetches_by : (told : Option (List ℕ)) (said : FetchSettings) (end : FetchEnd) (asked : ℕ) (before old new : Beside) → before ≡ old → SaysFetch told said → Fetches said end asked before new → FetchesBy told end asked old new
fetches_by told said end asked before old new same says h =
    subst (λ (x : Beside). FetchesBy told end asked x new) same
    (by_fetch end (NoFetch before new) (Fetch said end asked before new) ((said : FetchSettings) × SaysFetch told said × Fetch said end asked before new) (λ run. (said, says, run)) h)

-- the same by the names of the files, and over what is told before the settings were read
pub fetches_named : {X : Type 0} (held : X → List ℕ → Option (List ℕ)) (ahead : X → Option (List SidePlan)) (back : X → Option (List SideEnd)) (told : Option (List ℕ)) (said : FetchSettings) (end : FetchEnd) (asked : ℕ)
    → (a a' b b' : List ℕ) (old mid new : X) → a ≡ a' → b ≡ b' → held mid ≡ held old → ahead mid ≡ ahead old → back mid ≡ back old → SaysFetch told said
    → Fetches said end asked (beside held ahead back a b mid) (beside held ahead back a b new) → FetchesBy told end asked (beside held ahead back a' b' old) (beside held ahead back a' b' new)
fetches_named held ahead back told said end asked a a' b b' old mid new is_a is_b p q r says h =
    fetches_by told said end asked (beside held ahead back a' b' mid) (beside held ahead back a' b' old) (beside held ahead back a' b' new) (beside_same held ahead back a' b' mid old p q r) says
    (subst (λ (m : List ℕ). Fetches said end asked (beside held ahead back a' m mid) (beside held ahead back a' m new)) is_b
    (subst (λ (n : List ℕ). Fetches said end asked (beside held ahead back n b mid) (beside held ahead back n b new)) is_a h))
