-- One push and its turn as a round of one token.
use Rattle.std.proofs.Common.{◌≡◌, ℕ, List, [], ◌∷◌, Option, Some, None, Result, Ok, Err, inl, refl, sym, append-nil}
use Rattle.std.specs.Option.{option_to_list}
use Rattle.std.specs.Prelude.{⊤}
use Rattle.sig_links.specs.Told.{LinkPlan, Sent}
use Rattle.sig_push.specs.Pushed.{Counts, Hears, Sends}
use Rattle.sig_push.specs.declared.fault.PushFault.{PushFault}
use Rattle.sig_push.specs.declared.fault.PushFault.TheVariants.{Memory}
use Rattle.sig_terms.specs.declared.call.Call.TheVariants.{Settle}
use Rattle.sig_terms.specs.declared.call.Outcome.{Outcome}
use Rattle.sig_terms.specs.declared.rules.Rules.{Rules}
use Rattle.sig_terms.specs.declared.token.Token.{Token}
use Rattle.sig_txnode.specs.declared.turn.Turn.{Turn}
use Rattle.sig_txnode.specs.Told.{TakerTold}
use Rattle.sig_round.specs.Delivered.{Delivered, Delivers, HearsAll, IsJudged, SendsAll}
use Rattle.sig_links.specs.Views.{SideView}
use Rattle.sig_round.specs.Turns.{Adds, AddsTurnOf, Asker, IsTurnOf}
use Rattle.sig_round.proofs.Grown.{adds_none}

sends_one : (rules : Rules) (t : Token) (r : Result Outcome PushFault) (old new : Option (List Sent)) → Sends rules t old new r → SendsAll rules (t ∷ []) (r ∷ []) old new
sends_one rules t r None new s = s
sends_one rules t r (Some old) new s = (option_to_list s.0, s.1, (s.0, [], sym (append-nil (option_to_list s.0)), s.2, refl))

hears_one : (r : Result Outcome PushFault) (old new : Option (List LinkPlan)) → Hears old new r → HearsAll (r ∷ []) old new
hears_one r None new h = h
hears_one r (Some old) new h = (option_to_list h.0, h.1, h.2, h.3, (h.0, [], sym (append-nil (option_to_list h.0)), h.4, refl))

-- what a push ensures
pub record Pushed (rules : Rules) (t : Token) (before after : SideView) (r : Result Outcome PushFault) : Type 0 where
  pub judged : IsJudged rules t r
  pub sends : Sends rules t before.sent after.sent r
  pub hears : Hears before.ahead after.ahead r
  pub times : after.times ≡ before.times
  pub counts : Counts before.faults after.faults r

-- a push that has no answer
failed : (rules : Rules) (by : Asker) (t : Token) (before after : SideView) (fault : PushFault)
    → Pushed rules t before after (Err fault) → Delivers rules by (t ∷ []) before after [] (Err fault)
failed rules by t before after fault p = record {
  results = Err fault ∷ [];
  settles = (p.judged, refl, refl, refl);
  sends = sends_one rules t (Err fault) before.sent after.sent p.sends;
  hears = hears_one (Err fault) before.ahead after.ahead p.hears;
  times = p.times;
  counts = counts_err fault before.faults after.faults p.counts;
}
  where
    counts_err : (f : PushFault) (a b : ℕ) → Counts {T = Outcome} a b (Err f) → Counts {T = ⊤} a b (Err f)
    counts_err f a b c = c

-- a push that has an answer, and no turn: memory ran out
stopped : (rules : Rules) (by : Asker) (t : Token) (before after : SideView) (outcome : Outcome)
    → Pushed rules t before after (Ok outcome) → Delivers rules by (t ∷ []) before after [] (Err Memory)
stopped rules by t before after outcome p = record {
  results = Ok outcome ∷ [];
  settles = (p.judged, refl, refl);
  sends = sends_one rules t (Ok outcome) before.sent after.sent p.sends;
  hears = hears_one (Ok outcome) before.ahead after.ahead p.hears;
  times = p.times;
  counts = p.counts;
}

-- a push that has an answer, and its turn
settled : (rules : Rules) (by : Asker) (t : Token) (before after : SideView) (outcome : Outcome) (turn : Turn) (u : ⊤)
    → Pushed rules t before after (Ok outcome) → IsTurnOf by (Settle t.stream t.number outcome) turn
    → Delivers rules by (t ∷ []) before after (turn ∷ []) (Ok u)
settled rules by t before after outcome turn u p is = record {
  results = Ok outcome ∷ [];
  settles = (p.judged, is, (refl, refl, inl refl));
  sends = sends_one rules t (Ok outcome) before.sent after.sent p.sends;
  hears = hears_one (Ok outcome) before.ahead after.ahead p.hears;
  times = p.times;
  counts = p.counts;
}

-- the same with the log and the taker, where each part of the side is told for itself
pub delivered_failed : (rules : Rules) (by : Asker) (t : Token) (a a' : Option (List LinkPlan)) (m m' : Option (List ℕ)) (s s' : Option (List Sent)) (n n' : ℕ)
    (turns : List Turn) (told : Option TakerTold) (fault : PushFault)
    → IsJudged rules t (Err fault) → Sends rules t s s' (Err fault) → Hears a a' (Err fault) → m' ≡ m → Counts {T = Outcome} n n' (Err fault)
    → Delivered rules by (t ∷ []) (record { ahead = a; times = m; sent = s; faults = n }) (record { ahead = a'; times = m'; sent = s'; faults = n' }) turns turns told told (Err fault)
delivered_failed rules by t a a' m m' s s' n n' turns told fault judged sends hears times counts = record {
  more = [];
  adds = adds_none turns told;
  delivers = failed rules by t (record { ahead = a; times = m; sent = s; faults = n }) (record { ahead = a'; times = m'; sent = s'; faults = n' }) fault
      (record { judged = judged; sends = sends; hears = hears; times = times; counts = counts });
}

pub delivered_stopped : (rules : Rules) (by : Asker) (t : Token) (a a' : Option (List LinkPlan)) (m m' : Option (List ℕ)) (s s' : Option (List Sent)) (n n' : ℕ)
    (turns turns' : List Turn) (told told' : Option TakerTold) (outcome : Outcome)
    → IsJudged rules t (Ok outcome) → Sends rules t s s' (Ok outcome) → Hears a a' (Ok outcome) → m' ≡ m → n' ≡ n → Adds [] turns turns' told told'
    → Delivered rules by (t ∷ []) (record { ahead = a; times = m; sent = s; faults = n }) (record { ahead = a'; times = m'; sent = s'; faults = n' }) turns turns' told told' (Err Memory)
delivered_stopped rules by t a a' m m' s s' n n' turns turns' told told' outcome judged sends hears times counts adds = record {
  more = [];
  adds = adds;
  delivers = stopped rules by t (record { ahead = a; times = m; sent = s; faults = n }) (record { ahead = a'; times = m'; sent = s'; faults = n' }) outcome
      (record { judged = judged; sends = sends; hears = hears; times = times; counts = counts });
}

pub delivered_settled : (rules : Rules) (by : Asker) (t : Token) (a a' : Option (List LinkPlan)) (m m' : Option (List ℕ)) (s s' : Option (List Sent)) (n n' : ℕ)
    (turns turns' : List Turn) (told told' : Option TakerTold) (outcome : Outcome) (u : ⊤)
    → IsJudged rules t (Ok outcome) → Sends rules t s s' (Ok outcome) → Hears a a' (Ok outcome) → m' ≡ m → n' ≡ n
    → AddsTurnOf by (Settle t.stream t.number outcome) turns turns' told told'
    → Delivered rules by (t ∷ []) (record { ahead = a; times = m; sent = s; faults = n }) (record { ahead = a'; times = m'; sent = s'; faults = n' }) turns turns' told told' (Ok u)
delivered_settled rules by t a a' m m' s s' n n' turns turns' told told' outcome u judged sends hears times counts asked = record {
  more = asked.0 ∷ [];
  adds = asked.2;
  delivers = settled rules by t (record { ahead = a; times = m; sent = s; faults = n }) (record { ahead = a'; times = m'; sent = s'; faults = n' }) outcome asked.0 u
      (record { judged = judged; sends = sends; hears = hears; times = times; counts = counts }) asked.1;
}
