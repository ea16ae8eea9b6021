-- What is acknowledged is kept.
use Rattle.std.proofs.Common.{◌≡◌, ◌∙◌, ap, sym, subst, refl, ℕ, zero, suc, List, [], ◌∷◌, ◌++◌, Bool, true, false, ◌||◌, codes, All, Option, Some, None, if◌then◌else◌, filter_map, unwrap_or, IfOk, Result, Ok, Err}
use Rattle.std.specs.Prelude.{⊤}
use Rattle.std.specs.List.{cons_option}
use Rattle.std.proofs.lemmas.Bool.{and_parts}
use Rattle.std.proofs.lemmas.List.Elements.{All-cons, All-head, All-nil, All-weaker}
use Rattle.std.proofs.lemmas.List.Folds.{list_any-append}
use Rattle.std.proofs.lemmas.Slice.Eq.{bytes_eq-Decides}
use Rattle.sig_json.specs.Checks.{first_failing}
use Rattle.sig_terms.specs.declared.call.PollAsk.{PollAsk}
use Rattle.sig_inbox.specs.declared.pair.Pair.{Pair}
use Rattle.sig_inbox.specs.Pairs.{has_pair, pair_eq}
use Rattle.sig_inbox.proofs.Distinct.{pair_decided}
use Rattle.sig_set.specs.declared.trust.Trust.{Trust}
use Rattle.sig_set.specs.Checks.{Fault}
use Rattle.sig_set.specs.Claims.{text_in}
use Rattle.sig_set.specs.Judgement.{checks, claims_of, judged_by, payload_in, speaks_for, token_in}
use Rattle.sig_set.specs.Tests.{is_filled, is_filled_and_wanted, is_text}
use Rattle.sig_set.proofs.ReadsClaims.{all_hold}
use Rattle.sig_receiver.specs.Journal.{distinct, journal_by, pair_of, pairs_of}
use Rattle.sig_receiver.specs.Receiver.{Received, heard_by, received_of}
use Rattle.sig_receiver.specs.declared.heard.Heard.TheVariants as heard
use Rattle.sig_receiver.proofs.KeptLemmas.{new_text, none_more}
use Rattle.sig_delivery.specs.declared.sets.Listed.{Listed}
use Rattle.sig_delivery.specs.declared.sets.Sets.{Sets}
use Rattle.sig_journal.specs.declared.node_fault.NodeFault.{NodeFault}
use Rattle.sig_journal.specs.declared.node_fault.NodeFault.TheVariants as node
use Rattle.sig_rxnode.specs.declared.answer.RxAnswer.{RxAnswer}
use Rattle.sig_rxnode.specs.declared.call.RxCall.{RxCall}
use Rattle.sig_rxnode.specs.declared.call.RxCall.TheVariants.{Token}
use Rattle.sig_rxnode.specs.declared.rules.Peer.{Peer}
use Rattle.sig_rxnode.specs.declared.turn.RxTurn.{RxTurn}
use Rattle.sig_rxnode.specs.Answers.{answer_of, change_of, heard_answer}
use Rattle.sig_rxnode.specs.Turns.{after_turn, after_turns, change_in, when_ok}
use Rattle.sig_fetch.specs.Asks.{ack_of, ask_after, is_taken, named_in}
use Rattle.sig_fetch.specs.Rounds.{GoesOnAfter, IsRound, PagesTo, Polls, Round, RoundsGoOn, Takes, turns_of}
use Rattle.sig_fetch.specs.Turns.{AreAnswered}
use Rattle.sig_fetch.specs.declared.fault.FetchFault.{FetchFault}
use Rattle.sig_fetch.proofs.Growing.{after_append, answered_back, answered_front}

-- the pair of the peer's issuer and this identifier is kept
abbrev pub IsKept : Peer → Received → List ℕ → Type 0
IsKept peer state jti = has_pair (record { iss = peer.iss; jti = jti }) state.pairs ≡ true

-- ---- pairs stay

or_front : (a b : Bool) → a ≡ true → a || b ≡ true
or_front true b h = refl
or_front false b h = absurd cc

or_back : (a b : Bool) → b ≡ true → a || b ≡ true
or_back true b h = refl
or_back false b h = h

known_on : (p : Pair) (xs ys : List Pair) → has_pair p xs ≡ true → has_pair p (xs ++ ys) ≡ true
known_on p xs ys h = list_any-append (pair_eq p) xs ys ∙ or_front (has_pair p xs) (has_pair p ys) h

known_last : (p : Pair) (xs : List Pair) → has_pair p (xs ++ p ∷ []) ≡ true
known_last p xs = list_any-append (pair_eq p) xs (p ∷ []) ∙ or_back (has_pair p xs) (has_pair p (p ∷ [])) (or_front (pair_eq p p) false ((pair_decided p p).1 refl))

kept_by_turn : (peer : Peer) (trust : Trust) (state : Received) (t : RxTurn) (jti : List ℕ) → IsKept peer state jti → IsKept peer (after_turn trust state t) jti
kept_by_turn peer trust state t jti h = known_on (record { iss = peer.iss; jti = jti }) state.pairs (pairs_of (distinct state.pairs (change_in trust state t))) h

pub kept_on : (peer : Peer) (trust : Trust) (state : Received) (ts : List RxTurn) (jti : List ℕ) → IsKept peer state jti → IsKept peer (after_turns trust state ts) jti
kept_on peer trust state [] jti h = h
kept_on peer trust state (t ∷ ts) jti h = kept_on peer trust (after_turn trust state t) ts jti (kept_by_turn peer trust state t jti h)

-- ---- a token that is valid for an issuer and a name has them

false_is_true : {P : Type 0} → false ≡ true → P
false_is_true h = cc

spoken_for : (iss : List ℕ) (o : Option (List ℕ)) → speaks_for (Some iss) o ≡ true → unwrap_or o [] ≡ iss
spoken_for iss None h = false_is_true h
spoken_for iss (Some text) h = sym ((bytes_eq-Decides iss text).0 h)

named_so : (jti : List ℕ) (o : Option (List ℕ)) → is_filled_and_wanted (Some jti) o ≡ true → unwrap_or o [] ≡ jti
named_so jti None h = false_is_true h
named_so jti (Some text) h = (bytes_eq-Decides text jti).0 (and_parts (is_filled (Some text)) (is_text jti (Some text)) h).1

pair_named : (trust : Trust) (iss jti text : List ℕ) → first_failing (checks trust (Some iss) (Some jti) text) ≡ None → pair_of (claims_of text) ≡ record { iss = iss; jti = jti }
pair_named trust iss jti text h =
    let all = all_hold (checks trust (Some iss) (Some jti) text) h in
    let v = payload_in (token_in text) in
    let said : unwrap_or (text_in (codes "iss") v) [] ≡ iss = spoken_for iss (text_in (codes "iss") v) all.1.1.1.1.1.1.1.1.1.0 in
    let named : unwrap_or (text_in (codes "jti") v) [] ≡ jti = named_so jti (text_in (codes "jti") v) all.1.1.1.1.1.1.1.1.1.1.1.1.1.1.0 in
    λ k. record { iss = said k; jti = named k }

-- ---- a token that was taken is kept

module _ (peer : Peer) (trust : Trust) (jti text : List ℕ) (state : Received) where
  abbrev pair : Pair
  pair = record { iss = peer.iss; jti = jti }

  by_known : (known : Bool) → has_pair pair state.pairs ≡ known → pair_of (claims_of text) ≡ pair
      → IsKept peer (received_of state (journal_by (if known then heard.Seen else heard.Accepted) [] text)) jti
  by_known true is same = subst (λ (s : Received). has_pair pair s.pairs ≡ true) (sym (none_more state)) is
  by_known false is same =
      let fresh : has_pair (pair_of (claims_of text)) state.pairs ≡ false = ap (λ (p : Pair). has_pair p state.pairs) same ∙ is in
      let last : has_pair pair (state.pairs ++ pair_of (claims_of text) ∷ []) ≡ true =
      ap (λ (p : Pair). has_pair pair (state.pairs ++ p ∷ [])) same ∙ known_last pair state.pairs in
      subst (λ (s : Received). has_pair pair s.pairs ≡ true) (sym (new_text state text fresh)) last

  by_fault : (o : Option Fault) → first_failing (checks trust (Some peer.iss) (Some jti) text) ≡ o
      → is_taken (Ok (heard_answer (heard_by state.pairs (judged_by o (claims_of text))))) ≡ true
      → IsKept peer (received_of state (journal_by (heard_by state.pairs (judged_by o (claims_of text))) [] text)) jti
  by_fault None is h =
      let same = pair_named trust peer.iss jti text is in
      subst (λ (p : Pair). IsKept peer (received_of state (journal_by (if has_pair p state.pairs then heard.Seen else heard.Accepted) [] text)) jti) (sym same)
      (by_known (has_pair pair state.pairs) refl same)
  by_fault (Some fault) is h = false_is_true h

  heard_kept : is_taken (Ok (answer_of trust state (Token (Some peer.iss) (Some jti) text))) ≡ true → IsKept peer (received_of state (change_of trust state (Token (Some peer.iss) (Some jti) text))) jti
  heard_kept h = by_fault (first_failing (checks trust (Some peer.iss) (Some jti) text)) refl h

-- ---- the turns of a page

abbrev token_of : Peer → Listed → RxCall
token_of peer l = Token (Some peer.iss) (Some l.jti) l.text

-- what is kept after the token's turn
abbrev kept_after : Peer → Listed → Trust → Received → Result RxAnswer NodeFault → Received
kept_after peer l trust state r = received_of state (when_ok r (change_of trust state (token_of peer l)))

token_kept : (peer : Peer) (l : Listed) (trust : Trust) (state : Received) (r : Result RxAnswer NodeFault) (rest : List (List ℕ))
    → IfOk r (λ answer. answer ≡ answer_of trust state (token_of peer l)) → All (IsKept peer (kept_after peer l trust state r)) rest
    → All (IsKept peer (kept_after peer l trust state r)) (cons_option (if is_taken r then Some l.jti else None) rest)
token_kept peer l trust state (Err fault) rest answered more = more
token_kept peer l trust state (Ok a) rest answered more = by (is_taken (Ok a)) refl
  where
    by : (b : Bool) → is_taken (Ok a) ≡ b → All (IsKept peer (kept_after peer l trust state (Ok a))) (cons_option (if b then Some l.jti else None) rest)
    by true is =
        All-cons (IsKept peer (kept_after peer l trust state (Ok a))) l.jti rest
        (heard_kept peer trust l.jti l.text state (sym (ap (λ (x : RxAnswer). is_taken (Ok x)) answered) ∙ is)) more
    by false is = more

turn_kept : (peer : Peer) (l : Listed) (trust : Trust) (state : Received) (t : RxTurn) (rest : List (List ℕ)) → t.call ≡ token_of peer l
    → IfOk t.result (λ answer. answer ≡ answer_of trust state t.call) → All (IsKept peer (after_turn trust state t)) rest → All (IsKept peer (after_turn trust state t)) (cons_option (ack_of t) rest)
turn_kept peer l trust state t rest is =
    subst (λ (c : RxCall). IfOk t.result (λ answer. answer ≡ answer_of trust state c) → All (IsKept peer (received_of state (when_ok t.result (change_of trust state c)))) rest
    → All (IsKept peer (received_of state (when_ok t.result (change_of trust state c)))) (cons_option (if is_taken t.result then named_in c else None) rest))
    (sym is) (token_kept peer l trust state t.result rest)

-- what the turns of a page acknowledge
no_acks : (peer : Peer) (state : Received) (ts : List RxTurn) → ts ≡ [] → All (IsKept peer state) (filter_map ack_of ts)
no_acks peer state ts none = subst (λ (l : List RxTurn). All (IsKept peer state) (filter_map ack_of l)) (sym none) (All-nil (IsKept peer state))

turns_kept : (peer : Peer) (trust : Trust) (ls : List Listed) (ts : List RxTurn) (end : Result ⊤ FetchFault) (state : Received) → Takes peer ls ts end → AreAnswered trust state ts
    → All (IsKept peer (after_turns trust state ts)) (filter_map ack_of ts)
turns_kept peer trust [] ts end state takes answered = no_acks peer (after_turns trust state ts) ts takes.0
turns_kept peer trust (l ∷ ls) [] end state takes answered = All-nil (IsKept peer state)
turns_kept peer trust (l ∷ ls) (t ∷ ts) end state takes answered =
    let next = after_turn trust state t in
    let more : All (IsKept peer (after_turns trust next ts)) (filter_map ack_of ts) =
    by t.result takes.1 (λ (k : Takes peer ls ts end). turns_kept peer trust ls ts end next k answered.1) in
    acked (ack_of t) more (turn_kept peer l trust state t [] takes.0.call answered.0 (All-nil (IsKept peer next)))
  where
    by : (r : Result RxAnswer NodeFault) → GoesOnAfter r ts end (Takes peer ls ts end) → (Takes peer ls ts end → All (IsKept peer (after_turns trust (after_turn trust state t) ts)) (filter_map ack_of ts))
        → All (IsKept peer (after_turns trust (after_turn trust state t) ts)) (filter_map ack_of ts)
    by (Ok a) s go = go s
    by (Err node.Store) s go = no_acks peer (after_turns trust (after_turn trust state t) ts) ts s.0
    by (Err (node.Full n)) s go = no_acks peer (after_turns trust (after_turn trust state t) ts) ts s.0
    by (Err node.Memory) s go = absurd s

    acked : (o : Option (List ℕ)) → All (IsKept peer (after_turns trust (after_turn trust state t) ts)) (filter_map ack_of ts) → All (IsKept peer (after_turn trust state t)) (cons_option o [])
        → All (IsKept peer (after_turns trust (after_turn trust state t) ts)) (cons_option o (filter_map ack_of ts))
    acked None more head = more
    acked (Some jti) more head =
        All-cons (IsKept peer (after_turns trust (after_turn trust state t) ts)) jti (filter_map ack_of ts)
        (kept_on peer trust (after_turn trust state t) ts jti (All-head (IsKept peer (after_turn trust state t)) jti [] head)) more

-- ---- all rounds

-- what a round after these turns acknowledges, and what the rounds after it do
abbrev AllKept : Peer → Received → List Round → Type 0
AllKept peer state rounds = All (λ (r : Round). All (IsKept peer state) r.ask.acks) rounds

none_kept : (peer : Peer) (state : Received) (rounds : List Round) → rounds ≡ [] → AllKept peer state rounds
none_kept peer state rounds none = subst (λ (rs : List Round). AllKept peer state rs) (sym none) (All-nil (λ (r : Round). All (IsKept peer state) r.ask.acks))

round_kept : (peer : Peer) (trust : Trust) (ask : PollAsk) (r : Round) (state : Received) → IsRound peer ask r (Ok true) → AreAnswered trust state r.turns
    → All (IsKept peer (after_turns trust state r.turns)) (filter_map ack_of r.turns)
round_kept peer trust ask r state is answered = by is.page is.takes
  where
    by : (page : Result Sets FetchFault) → PagesTo peer page r.turns (Ok true) → All (IsKept peer (after_turns trust state r.turns)) (filter_map ack_of r.turns)
    by (Ok page) takes = turns_kept peer trust page.tokens r.turns (Ok tt) state takes.0 answered
    by (Err fault) takes = no_acks peer (after_turns trust state r.turns) r.turns takes.0

pub acks_kept : (peer : Peer) (trust : Trust) (n : ℕ) (last : List RxTurn) (rounds : List Round) (end : Result ⊤ FetchFault) (state : Received) → Polls peer n last rounds end
    → AreAnswered trust state (turns_of rounds) → All (IsKept peer state) (filter_map ack_of last) → AllKept peer (after_turns trust state (turns_of rounds)) rounds
acks_kept peer trust n last [] end state polls answered acks = All-nil (λ (r : Round). All (IsKept peer state) r.ask.acks)
acks_kept peer trust zero last (r ∷ rounds) end state polls answered acks = absurd polls
acks_kept peer trust (suc n) last (r ∷ rounds) end state polls answered acks =
    let mid = after_turns trust state r.turns in
    let final = after_turns trust state (r.turns ++ turns_of rounds) in
    let joined : final ≡ after_turns trust mid (turns_of rounds) = after_append trust state r.turns (turns_of rounds) in
    let here : All (IsKept peer final) r.ask.acks =
    subst (λ (a : PollAsk). All (IsKept peer final) a.acks) (sym polls.1.asks)
    (All-weaker (IsKept peer state) (IsKept peer final) (λ jti h. kept_on peer trust state (r.turns ++ turns_of rounds) jti h) (filter_map ack_of last) acks) in
    let later : AllKept peer (after_turns trust mid (turns_of rounds)) rounds =
    by polls.0 polls.1 polls.2 (λ (is : IsRound peer (ask_after last) r (Ok true)) (p : Polls peer n r.turns rounds end).
    acks_kept peer trust n r.turns rounds end mid p (answered_back trust state r.turns (turns_of rounds) answered)
    (round_kept peer trust (ask_after last) r state is (answered_front trust state r.turns (turns_of rounds) answered))) in
    All-cons (λ (q : Round). All (IsKept peer final) q.ask.acks) r rounds here (subst (λ (s : Received). AllKept peer s rounds) (sym joined) later)
  where
    by : (ended : Result Bool FetchFault) → IsRound peer (ask_after last) r ended → RoundsGoOn ended rounds end (Polls peer n r.turns rounds end)
        → (IsRound peer (ask_after last) r (Ok true) → Polls peer n r.turns rounds end → AllKept peer (after_turns trust (after_turns trust state r.turns) (turns_of rounds)) rounds)
        → AllKept peer (after_turns trust (after_turns trust state r.turns) (turns_of rounds)) rounds
    by (Err fault) is s go = none_kept peer (after_turns trust (after_turns trust state r.turns) (turns_of rounds)) rounds s.0
    by (Ok false) is s go = none_kept peer (after_turns trust (after_turns trust state r.turns) (turns_of rounds)) rounds s.0
    by (Ok true) is s go = go is s
