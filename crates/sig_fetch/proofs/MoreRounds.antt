-- A fetch within its rounds: those that were made, and however it goes on.
use Rattle.std.proofs.Common.{◌≡◌, ◌∙◌, ap, sym, subst, refl, inl, inr, ℕ, suc, ◌+◌, List, [], ◌∷◌, ◌++◌, append_assoc, append-nil, length, Bool, true, false, All, Option, Some, None, IfOk, Result, Ok, Err, arith}
use Rattle.std.specs.Prelude.{⊤}
use Rattle.std.specs.Option.{option_to_list}
use Rattle.std.proofs.lemmas.List.{length-append}
use Rattle.std.proofs.lemmas.List.Elements.{All-nil}
use Rattle.sig_json.specs.Answers.{result_map}
use Rattle.sig_links.specs.Told.{LinkPlan, Sent}
use Rattle.sig_terms.specs.declared.call.PollAsk.{PollAsk}
use Rattle.sig_receiver.specs.Receiver.{Received}
use Rattle.sig_rxnode.specs.declared.rules.Peer.{Peer}
use Rattle.sig_rxnode.specs.declared.turn.RxTurn.{RxTurn}
use Rattle.sig_rxnode.specs.Node.{NodeView}
use Rattle.sig_fetch.specs.Asks.{ask_after}
use Rattle.sig_fetch.specs.Fetching.{AcksStand, Fetches, Goes, IsRoundOrNone, Made}
use Rattle.sig_fetch.specs.Rounds.{Polls, Round, turns_of}
use Rattle.sig_fetch.specs.Turns.{Grows}
use Rattle.sig_fetch.specs.declared.fault.FetchFault.{FetchFault}
use Rattle.sig_fetch.specs.declared.fault.FetchFault.TheVariants.{Memory, NoGateway}
use Rattle.sig_fetch.proofs.Growing.{grows_none, grows_on}
use Rattle.sig_fetch.proofs.Keeping.{IsKept, acks_kept}
use Rattle.sig_fetch.proofs.Sides.{hears_none, hears_on, sends_none, sends_on}

-- ---- what rounds do, one part after another

turns_of-append : (xs ys : List Round) → turns_of (xs ++ ys) ≡ turns_of xs ++ turns_of ys
turns_of-append [] ys = refl
turns_of-append (r ∷ xs) ys = ap (λ (l : List RxTurn). r.turns ++ l) (turns_of-append xs ys) ∙ sym (append_assoc r.turns (turns_of xs) (turns_of ys))

made_none : {D : Type 0} (peer : Peer) (ahead : Option (List LinkPlan)) (sent : Option (List Sent)) (node : NodeView D) → Made peer [] ahead ahead sent sent node node
made_none peer ahead sent node = record { sends = sends_none peer sent; hears = hears_none ahead; grows = grows_none node }

made_on : {D : Type 0} (peer : Peer) (xs ys : List Round) (h i j : Option (List LinkPlan)) (s t u : Option (List Sent)) (a b c : NodeView D)
    → Made peer xs h i s t a b → Made peer ys i j t u b c → Made peer (xs ++ ys) h j s u a c
made_on peer xs ys h i j s t u a b c p q = record {
  sends = sends_on peer xs ys s t u p.sends q.sends;
  hears = hears_on xs ys h i j p.hears q.hears;
  grows = subst (λ (l : List RxTurn). Grows l a c) (sym (turns_of-append xs ys)) (grows_on (turns_of xs) (turns_of ys) a b c p.grows q.grows);
}

-- ---- a fetch by its rounds

-- the last part of a fetch, whose first rounds were made: at `Ok` so many of them
abbrev IsNumber : List Round → Result ℕ FetchFault → Type 0
IsNumber rounds end = IfOk end (λ made. made ≡ length rounds)

fetches_by : {D : Type 0} (peer : Peer) (n : ℕ) (rounds : List Round) (h i : Option (List LinkPlan)) (s t : Option (List Sent)) (a b : NodeView D) (end : Result ℕ FetchFault)
    → Polls peer n [] rounds (result_map (λ made. tt) end) → IsNumber rounds end → Made peer rounds h i s t a b → Fetches peer n h i s t a b end
fetches_by peer n rounds h i s t a b end polls number made = record {
  rounds = rounds;
  polls = inr polls;
  counts = number;
  made = made;
  acknowledged = subst (λ (k : Received). All (λ (r : Round). All (IsKept peer k) r.ask.acks) rounds) (sym made.grows.state)
      (acks_kept peer a.rules.trust n [] rounds (result_map (λ made. tt) end) a.kept.state polls made.grows.answers (All-nil (IsKept peer a.kept.state)));
}

-- nothing is done without a gateway that is needed
pub fetches_none : {D : Type 0} (peer : Peer) (n : ℕ) (h : Option (List LinkPlan)) (s : Option (List Sent)) (a : NodeView D) → Fetches peer n h h s s a a (Err NoGateway)
fetches_none peer n h s a = record {
  rounds = [];
  polls = inl (refl, refl);
  counts = tt;
  made = made_none peer h s a;
  acknowledged = All-nil (AcksStand peer a);
}

-- ---- within the rounds

-- so many rounds were made of at most n, the last with these turns; however it goes on, all of them were made so
pub record GoesOn {D : Type 0} (peer : Peer) (n left count : ℕ) (last : List RxTurn) (h i : Option (List LinkPlan)) (s t : Option (List Sent)) (a b : NodeView D) : Type 0 where
  pub rounds : List Round
  pub number : length rounds ≡ count
  pub made : Made peer rounds h i s t a b
  pub all : (rest : List Round) (end : Result ⊤ FetchFault) → Polls peer left last rest end → Polls peer n [] (rounds ++ rest) end

pub goes_from : {D : Type 0} (peer : Peer) (n left : ℕ) (last : List RxTurn) (h : Option (List LinkPlan)) (s : Option (List Sent)) (a : NodeView D) → left ≡ n → last ≡ [] → GoesOn peer n left 0 last h h s s a a
goes_from peer n left last h s a same none = record {
  rounds = [];
  number = refl;
  made = made_none peer h s a;
  all = λ rest end p. subst (λ (m : ℕ). Polls peer m [] rest end) same (subst (λ (l : List RxTurn). Polls peer left l rest end) none p);
}

module _ {D : Type 0} (peer : Peer) (n left later count : ℕ) (last : List RxTurn) (h i j : Option (List LinkPlan)) (s t u : Option (List Sent)) (before gathered : List RxTurn) (a b c : NodeView D) where
  -- the round at which it ends, if any was made
  ends_in : GoesOn peer n left count last h i s t a b → (o : Option Round) (rest : Result ℕ FetchFault)
      → Polls peer left last (option_to_list o) (result_map (λ made. tt) rest) → IfOk rest (λ made. made ≡ count + length (option_to_list o)) → Made peer (option_to_list o) i j t u b c
      → Fetches peer n h j s u a c rest
  ends_in g o rest polls number made =
      fetches_by peer n (g.rounds ++ option_to_list o) h j s u a c rest (g.all (option_to_list o) (result_map (λ made. tt) rest) polls)
      (counted rest number) (made_on peer g.rounds (option_to_list o) h i j s t u a b c g.made made)
    where
      counted : (rest : Result ℕ FetchFault) → IfOk rest (λ made. made ≡ count + length (option_to_list o)) → IfOk rest (λ made. made ≡ length (g.rounds ++ option_to_list o))
      counted (Ok made) is = is ∙ ap (λ m. m + length (option_to_list o)) (sym g.number) ∙ sym (length-append g.rounds (option_to_list o))
      counted (Err fault) is = tt

  -- what was asked is what is asked after the last turns
  as_asked : (ask : PollAsk) (end : Result Bool FetchFault) → ask ≡ ask_after last → Goes peer ask i j t u before gathered b c end → Goes peer (ask_after last) i j t u before gathered b c end
  as_asked ask end is q = subst (λ (x : PollAsk). Goes peer x i j t u before gathered b c end) is q

  -- with a fault
  pub goes_no_further : left ≡ suc later → GoesOn peer n left count last h i s t a b → (e : FetchFault) (ask : PollAsk) → ask ≡ ask_after last → Goes peer ask i j t u before gathered b c (Err e) → Fetches peer n h j s u a c (Err e)
  goes_no_further more g e ask asked went = finish (as_asked ask (Err e) asked went)
    where
      by : (o : Option Round) → IsRoundOrNone peer (ask_after last) o (Err e) → Polls peer (suc later) last (option_to_list o) (Err e)
      by None is = inr (let make : FetchFault → Result ⊤ FetchFault = λ x. Err x in let same : e ≡ Memory = cc in ap make same)
      by (Some r) is = (Err e, is, (refl, refl))

      finish : Goes peer (ask_after last) i j t u before gathered b c (Err e) → Fetches peer n h j s u a c (Err e)
      finish q = ends_in g q.round (Err e) (subst (λ (m : ℕ). Polls peer m last (option_to_list q.round) (Err e)) (sym more) (by q.round q.is)) tt q.made

  none_is_fault : {T : Type 0} (listed : Bool) → ◌≡◌ {A = Result Bool FetchFault} (Ok listed) (Err Memory) → T
  none_is_fault listed is = absurd cc

  -- after a page that lists nothing
  pub goes_to_the_last : left ≡ suc later → GoesOn peer n left count last h i s t a b → (ask : PollAsk) → ask ≡ ask_after last → (listed : Bool) → listed ≡ false → Goes peer ask i j t u before gathered b c (Ok listed)
      → (m : ℕ) → m ≡ count + 1 → Fetches peer n h j s u a c (Ok m)
  goes_to_the_last more g ask asked listed none went m number =
      subst (λ k. Fetches peer n h j s u a c (Ok k)) (sym number) (finish (as_asked ask (Ok false) asked (subst (λ (x : Bool). Goes peer ask i j t u before gathered b c (Ok x)) none went)))
    where
      by : (o : Option Round) → IsRoundOrNone peer (ask_after last) o (Ok false) → Made peer (option_to_list o) i j t u b c → Fetches peer n h j s u a c (Ok (count + 1))
      by None is made = none_is_fault false is
      by (Some r) is made = ends_in g (Some r) (Ok (count + 1)) (subst (λ (m : ℕ). Polls peer m last (r ∷ []) (Ok tt)) (sym more) (Ok false, is, (refl, refl))) refl made

      finish : Goes peer (ask_after last) i j t u before gathered b c (Ok false) → Fetches peer n h j s u a c (Ok (count + 1))
      finish q = by q.round q.is q.made

  -- after another, whose turns alone were gathered
  pub goes_next : left ≡ suc later → GoesOn peer n left count last h i s t a b → (ask : PollAsk) → ask ≡ ask_after last → (listed : Bool) → listed ≡ true → before ≡ [] → Goes peer ask i j t u before gathered b c (Ok listed)
      → GoesOn peer n later (count + 1) gathered h j s u a c
  goes_next more g ask asked listed some none went = finish (as_asked ask (Ok true) asked (subst (λ (x : Bool). Goes peer ask i j t u before gathered b c (Ok x)) some went))
    where
      by : (o : Option Round) → IsRoundOrNone peer (ask_after last) o (Ok true) → Made peer (option_to_list o) i j t u b c → gathered ≡ before ++ turns_of (option_to_list o)
          → GoesOn peer n later (count + 1) gathered h j s u a c
      by None is made gathers = none_is_fault true is
      by (Some r) is made gathers =
          let turns : gathered ≡ r.turns = gathers ∙ ap (λ (l : List RxTurn). l ++ turns_of (r ∷ [])) none ∙ append-nil r.turns in
          record {
            rounds = g.rounds ++ r ∷ [];
            number = length-append g.rounds (r ∷ []) ∙ ap (λ m. m + 1) g.number;
            made = made_on peer g.rounds (r ∷ []) h i j s t u a b c g.made made;
            all = λ rest end p. subst (λ (l : List Round). Polls peer n [] l end) (sym (append_assoc g.rounds (r ∷ []) rest))
                (g.all (r ∷ rest) end (subst (λ (m : ℕ). Polls peer m last (r ∷ rest) end) (sym more) (Ok true, is, subst (λ (l : List RxTurn). Polls peer later l rest end) turns p)));
          }

      finish : Goes peer (ask_after last) i j t u before gathered b c (Ok true) → GoesOn peer n later (count + 1) gathered h j s u a c
      finish q = by q.round q.is q.made q.gathers

-- the turns that were gathered in a round are those that the node has more
pub gathers_more : {D : Type 0} (peer : Peer) (ask : PollAsk) (i j : Option (List LinkPlan)) (t u : Option (List Sent)) (before gathered : List RxTurn) (b c : NodeView D) (end : Result Bool FetchFault)
    → before ≡ [] → Goes peer ask i j t u before gathered b c end → c.turns ≡ b.turns ++ gathered
gathers_more peer ask i j t u before gathered b c end none q =
    q.made.grows.turns ∙ ap (λ (l : List RxTurn). b.turns ++ l) (sym (q.gathers ∙ ap (λ (l : List RxTurn). l ++ turns_of (option_to_list q.round)) none))

-- memory ran out before a round
pub goes_starved : {D : Type 0} (peer : Peer) (n left count : ℕ) (last : List RxTurn) (h i : Option (List LinkPlan)) (s t : Option (List Sent)) (a b : NodeView D)
    → GoesOn peer n left count last h i s t a b → Fetches peer n h i s t a b (Err Memory)
goes_starved peer n left count last h i s t a b g =
    ends_in peer n left left count last h i i s t t [] [] a b b g None (Err Memory) (inr refl) tt (made_none peer i t b)

-- all rounds were made
pub goes_to_the_end : {D : Type 0} (peer : Peer) (n left count m : ℕ) (last : List RxTurn) (h i : Option (List LinkPlan)) (s t : Option (List Sent)) (a b : NodeView D)
    → left ≡ 0 → m ≡ count → GoesOn peer n left count last h i s t a b → Fetches peer n h i s t a b (Ok m)
goes_to_the_end peer n left count m last h i s t a b none number g =
    ends_in peer n left left count last h i i s t t [] [] a b b g None (Ok m) (inl (none, refl)) (number ∙ sym zero_more) (made_none peer i t b)
  where
    zero_more : count + 0 ≡ count
    zero_more = omega arith
