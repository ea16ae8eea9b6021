-- A round of several tokens: the first one's push and turn, and the others'.
use Rattle.std.proofs.Common.{◌≡◌, ◌⊎◌, ℕ, List, [], ◌∷◌, ◌++◌, Option, Some, None, Result, Ok, Err, IsOk, inl, inr, refl, sym, ap, ◌∙◌, subst, append-nil, append_assoc}
use Rattle.std.specs.Option.{option_to_list}
use Rattle.std.specs.Prelude.{⊤}
use Rattle.sig_links.specs.Told.{LinkPlan, Sent}
use Rattle.sig_push.specs.Pushed.{Counts}
use Rattle.sig_push.specs.declared.fault.PushFault.{PushFault}
use Rattle.sig_push.specs.declared.fault.PushFault.TheVariants.{Memory}
use Rattle.sig_terms.specs.declared.call.Outcome.{Outcome}
use Rattle.sig_terms.specs.declared.rules.Rules.{Rules}
use Rattle.sig_terms.specs.declared.token.Token.{Token}
use Rattle.sig_txnode.specs.Told.{TakerTold}
use Rattle.sig_txnode.specs.declared.turn.Turn.{Turn}
use Rattle.sig_round.specs.Delivered.{AreSent, Delivered, Delivers, HearsAll, SendsAll, Settles}
use Rattle.sig_links.specs.Views.{SideView}
use Rattle.sig_round.specs.Turns.{Asker}
use Rattle.sig_round.proofs.Grown.{adds_none, adds_on}

ok_no_err : (u : ⊤) (e : PushFault) (p : ◌≡◌ {A = Result ⊤ PushFault} (Ok u) (Err e)) → ⊥
ok_no_err u e p = cc

-- ---- turns

-- a round of one token that ended well had one push with an answer
one_answer : (rules : Rules) (by : Asker) (t : Token) (results : List (Result Outcome PushFault)) (turns : List Turn) (u : ⊤)
    → Settles rules by (t ∷ []) results turns (Ok u) → (outcome : Outcome) × (results ≡ Ok outcome ∷ [])
one_answer rules by t [] turns u s = absurd (ok_no_err u Memory s.1)
one_answer rules by t (Err f ∷ rs) turns u s = absurd (ok_no_err u f s.3)
one_answer rules by t (Ok o ∷ rs) [] u s = absurd (ok_no_err u Memory s.2)
one_answer rules by t (Ok o ∷ rs) (turn ∷ turns) u s = (o, ap (λ (l : List (Result Outcome PushFault)). Ok o ∷ l) s.2.0)

settles_on : (rules : Rules) (by : Asker) (t : Token) (tokens : List Token) (rs rs' : List (Result Outcome PushFault)) (turns turns' : List Turn) (u : ⊤) (end : Result ⊤ PushFault)
    → Settles rules by (t ∷ []) rs turns (Ok u) → Settles rules by tokens rs' turns' end → Settles rules by (t ∷ tokens) (rs ++ rs') (turns ++ turns') end
settles_on rules by t tokens [] rs' turns turns' u end s q = absurd (ok_no_err u Memory s.1)
settles_on rules by t tokens (Err f ∷ rs) rs' turns turns' u end s q = absurd (ok_no_err u f s.3)
settles_on rules by t tokens (Ok o ∷ rs) rs' [] turns' u end s q = absurd (ok_no_err u Memory s.2)
settles_on rules by t tokens (Ok o ∷ rs) rs' (turn ∷ turns) turns' u end s q = (s.0, s.1, rw (s.2.0, s.2.1) q)

memory_ended : (e : PushFault) → IsOk {T = ⊤} {E = PushFault} (Err e) ⊎ ◌≡◌ {A = Result ⊤ PushFault} (Err e) (Err Memory) → ◌≡◌ {A = Result ⊤ PushFault} (Err e) (Err Memory)
memory_ended e (inl o) = cc
memory_ended e (inr p) = p

settles_no_more : (rules : Rules) (by : Asker) (tokens : List Token) (rs : List (Result Outcome PushFault)) (turns : List Turn) (e : PushFault)
    → Settles rules by [] rs turns (Err e) → Settles rules by tokens rs turns (Err e)
settles_no_more rules by [] rs turns e s = s
settles_no_more rules by (t ∷ tokens) rs turns e s = rw s.0 (s.1, memory_ended e s.2)

settles_err : (rules : Rules) (by : Asker) (t : Token) (tokens : List Token) (rs : List (Result Outcome PushFault)) (turns : List Turn) (e : PushFault)
    → Settles rules by (t ∷ []) rs turns (Err e) → Settles rules by (t ∷ tokens) rs turns (Err e)
settles_err rules by t tokens [] turns e s = s
settles_err rules by t tokens (Err f ∷ rs) turns e s = s
settles_err rules by t tokens (Ok o ∷ rs) [] e s = s
settles_err rules by t tokens (Ok o ∷ rs) (turn ∷ turns) e s = (s.0, s.1, settles_no_more rules by tokens rs turns e s.2)

-- ---- links

sends_on : (rules : Rules) (t : Token) (tokens : List Token) (r : Result Outcome PushFault) (rs : List (Result Outcome PushFault)) (a b c : Option (List Sent))
    → SendsAll rules (t ∷ []) (r ∷ []) a b → SendsAll rules tokens rs b c → SendsAll rules (t ∷ tokens) (r ∷ rs) a c
sends_on rules t tokens r rs None b c p q = subst (λ (o : Option (List Sent)). SendsAll rules tokens rs o c) p q
sends_on rules t tokens r rs (Some old) b c p q =
    let s = subst (λ (o : Option (List Sent)). SendsAll rules tokens rs o c) p.1 q in
    let mine = p.2 in (
      p.0 ++ s.0,
      s.1 ∙ ap Some (append_assoc old p.0 s.0),
      (mine.0, s.0, ap (λ (l : List Sent). l ++ s.0) (mine.2 ∙ ap (λ (l : List Sent). option_to_list mine.0 ++ l) mine.4 ∙ append-nil (option_to_list mine.0)), mine.3, s.2),
    )

sent_err : (rules : Rules) (t : Token) (tokens : List Token) (rs : List (Result Outcome PushFault)) (links : List Sent) → AreSent rules (t ∷ []) rs links → AreSent rules (t ∷ tokens) rs links
sent_err rules t tokens [] links s = s
sent_err rules t tokens (r ∷ []) links s = s
sent_err rules t tokens (r ∷ (r' ∷ rs)) links s = absurd s.4

sends_err : (rules : Rules) (t : Token) (tokens : List Token) (rs : List (Result Outcome PushFault)) (a b : Option (List Sent)) → SendsAll rules (t ∷ []) rs a b → SendsAll rules (t ∷ tokens) rs a b
sends_err rules t tokens rs None b s = s
sends_err rules t tokens rs (Some old) b s = (s.0, s.1, sent_err rules t tokens rs s.0 s.2)

hears_on : (r : Result Outcome PushFault) (rs : List (Result Outcome PushFault)) (a b c : Option (List LinkPlan)) → HearsAll (r ∷ []) a b → HearsAll rs b c → HearsAll (r ∷ rs) a c
hears_on r rs None b c p q = subst (λ (o : Option (List LinkPlan)). HearsAll rs o c) p q
hears_on r rs (Some old) b c p q =
    let s = subst (λ (o : Option (List LinkPlan)). HearsAll rs o c) p.3 q in
    let mine = p.4 in (
      p.0 ++ s.0,
      s.1,
      p.2 ∙ ap (λ (l : List LinkPlan). p.0 ++ l) s.2 ∙ sym (append_assoc p.0 s.0 s.1),
      s.3,
      (mine.0, s.0, ap (λ (l : List LinkPlan). l ++ s.0) (mine.2 ∙ ap (λ (l : List LinkPlan). option_to_list mine.0 ++ l) mine.4 ∙ append-nil (option_to_list mine.0)), mine.3, s.4),
    )

-- ---- rounds

-- a round of no tokens
pub delivers_none : (rules : Rules) (by : Asker) (view : SideView) (u : ⊤) → Delivers rules by [] view view [] (Ok u)
delivers_none rules by view u = record {
  results = [];
  settles = (refl, refl, inl refl);
  sends = none_sent view.sent;
  hears = none_heard view.ahead;
  times = refl;
  counts = refl;
}
  where
    none_sent : (old : Option (List Sent)) → SendsAll rules [] [] old old
    none_sent None = refl
    none_sent (Some old) = ([], ap Some (sym (append-nil old)), refl)

    none_heard : (old : Option (List LinkPlan)) → HearsAll [] old old
    none_heard None = refl
    none_heard (Some old) = ([], old, refl, refl, refl)

-- memory ran out before the first push
pub delivers_memory : (rules : Rules) (by : Asker) (tokens : List Token) (view : SideView) → Delivers rules by tokens view view [] (Err Memory)
delivers_memory rules by tokens view = record {
  results = [];
  settles = none_settled tokens;
  sends = none_sent tokens view.sent;
  hears = none_heard view.ahead;
  times = refl;
  counts = refl;
}
  where
    none_settled : (tokens : List Token) → Settles rules by tokens [] [] (Err Memory)
    none_settled [] = (refl, refl, inr refl)
    none_settled (t ∷ tokens) = (refl, refl)

    none_are_sent : (tokens : List Token) → AreSent rules tokens [] []
    none_are_sent [] = refl
    none_are_sent (t ∷ tokens) = refl

    none_sent : (tokens : List Token) (old : Option (List Sent)) → SendsAll rules tokens [] old old
    none_sent tokens None = refl
    none_sent tokens (Some old) = ([], ap Some (sym (append-nil old)), none_are_sent tokens)

    none_heard : (old : Option (List LinkPlan)) → HearsAll [] old old
    none_heard None = refl
    none_heard (Some old) = ([], old, refl, refl, refl)

-- the first token's round ended well, and the others' follows
pub delivers_on : (rules : Rules) (by : Asker) (t : Token) (tokens : List Token) (a b c : SideView) (turns turns' : List Turn) (u : ⊤) (end : Result ⊤ PushFault)
    → Delivers rules by (t ∷ []) a b turns (Ok u) → Delivers rules by tokens b c turns' end → Delivers rules by (t ∷ tokens) a c (turns ++ turns') end
delivers_on rules by t tokens a b c turns turns' u end p q =
    let one = one_answer rules by t p.results turns u p.settles in
    let mine = Ok one.0 ∷ [] in
    record {
      results = mine ++ q.results;
      settles = settles_on rules by t tokens mine q.results turns turns' u end (subst (λ (rs : List (Result Outcome PushFault)). Settles rules by (t ∷ []) rs turns (Ok u)) one.1 p.settles) q.settles;
      sends = sends_on rules t tokens (Ok one.0) q.results a.sent b.sent c.sent (subst (λ (rs : List (Result Outcome PushFault)). SendsAll rules (t ∷ []) rs a.sent b.sent) one.1 p.sends) q.sends;
      hears = hears_on (Ok one.0) q.results a.ahead b.ahead c.ahead (subst (λ (rs : List (Result Outcome PushFault)). HearsAll rs a.ahead b.ahead) one.1 p.hears) q.hears;
      times = q.times ∙ p.times;
      counts = subst (λ (n : ℕ). Counts n c.faults end) p.counts q.counts;
    }

-- the first token's round ended otherwise, and so did the round
pub delivers_err : (rules : Rules) (by : Asker) (t : Token) (tokens : List Token) (a b : SideView) (turns : List Turn) (e : PushFault)
    → Delivers rules by (t ∷ []) a b turns (Err e) → Delivers rules by (t ∷ tokens) a b turns (Err e)
delivers_err rules by t tokens a b turns e p = record {
  results = p.results;
  settles = settles_err rules by t tokens p.results turns e p.settles;
  sends = sends_err rules t tokens p.results a.sent b.sent p.sends;
  hears = p.hears;
  times = p.times;
  counts = p.counts;
}

-- the same with the log and the taker
pub delivered_none : (rules : Rules) (by : Asker) (view : SideView) (turns : List Turn) (told : Option TakerTold) (u : ⊤) → Delivered rules by [] view view turns turns told told (Ok u)
delivered_none rules by view turns told u = record { more = []; adds = adds_none turns told; delivers = delivers_none rules by view u }

pub delivered_memory : (rules : Rules) (by : Asker) (tokens : List Token) (view : SideView) (turns : List Turn) (told : Option TakerTold) → Delivered rules by tokens view view turns turns told told (Err Memory)
delivered_memory rules by tokens view turns told = record { more = []; adds = adds_none turns told; delivers = delivers_memory rules by tokens view }

pub delivered_on : (rules : Rules) (by : Asker) (t : Token) (tokens : List Token) (a b c : SideView) (x y z : List Turn) (k l m : Option TakerTold) (u : ⊤) (end : Result ⊤ PushFault)
    → Delivered rules by (t ∷ []) a b x y k l (Ok u) → Delivered rules by tokens b c y z l m end → Delivered rules by (t ∷ tokens) a c x z k m end
delivered_on rules by t tokens a b c x y z k l m u end p q = record {
  more = p.more ++ q.more;
  adds = adds_on p.more q.more x y z k l m p.adds q.adds;
  delivers = delivers_on rules by t tokens a b c p.more q.more u end p.delivers q.delivers;
}

pub delivered_err : (rules : Rules) (by : Asker) (t : Token) (tokens : List Token) (a b : SideView) (x y : List Turn) (k l : Option TakerTold) (e : PushFault)
    → Delivered rules by (t ∷ []) a b x y k l (Err e) → Delivered rules by (t ∷ tokens) a b x y k l (Err e)
delivered_err rules by t tokens a b x y k l e p = record { more = p.more; adds = p.adds; delivers = delivers_err rules by t tokens a b p.more e p.delivers }
