-- A tick over a node is one of a run.
use Rattle.std.proofs.Common.{◌≡◌, ◌∙◌, sym, ap, subst, refl, ℕ, List, [], ◌∷◌, ◌++◌, Bool, true, false, Option, None, Result, Ok, Err, is_some, inl, inr, append_assoc, append-nil}
use Rattle.std.specs.Prelude.{◌⊎◌, IfErr, IfOk, OnOk, ⊤}
use Rattle.sig_command.specs.Moment.{OutputState}
use Rattle.sig_courier.specs.Schedule.{IsLogged, Kept}
use Rattle.sig_courier.specs.declared.attempt.Attempt.{Attempt}
use Rattle.sig_history.proofs.JoinLemmas.{joined}
use Rattle.sig_history.specs.Owed.{Sum, sum_of}
use Rattle.sig_journal.specs.declared.node_fault.NodeFault.{NodeFault}
use Rattle.sig_journal.specs.declared.node_fault.NodeFault.TheVariants as node
use Rattle.sig_json.specs.Answers.{result_map}
use Rattle.sig_links.specs.Views.{SideView}
use Rattle.sig_opening.specs.Ends.{BreaksBy}
use Rattle.sig_opening.specs.Watches.{AreInRow}
use Rattle.sig_terms.specs.declared.fact.Fact.{Fact}
use Rattle.sig_terms.specs.declared.rules.Rules.{Rules}
use Rattle.sig_tick.specs.OverNode.{Ticked}
use Rattle.sig_tick.specs.Ticking.{IsTick, ticking}
use Rattle.sig_txnode.proofs.TurnLemmas.{turns_history}
use Rattle.sig_txnode.specs.Node.{IsNode, NodeView, files_told}
use Rattle.sig_txnode.specs.Turns.{AreTrue, BrokeAt, changes_of}
use Rattle.sig_txnode.specs.declared.turn.Turn.{Turn}
use Rattle.sig_ticking.specs.Ends.{fails_by, of_fault}
use Rattle.sig_ticking.specs.Lines.{IsEndBy, PutsTick}
use Rattle.sig_ticking.specs.Ticks.{Between, IsTickOf, Tick, facts_of, with_node}
use Rattle.sig_ticking.specs.declared.ending.CourierEnd.{CourierEnd}
use Rattle.sig_ticking.specs.declared.ending.CourierEnd.TheVariants.{Memory, StoreFailed}
use Rattle.sig_ticking.proofs.StopLemmas.{Tells, broken_ends, tick_tells, whole_no_store}

-- a tick over a node that ended so, by a log of the attempts before it
pub record TickFrom {D : Type 0} (told : D → Bool) (rules : Rules) (old new : NodeView D) (before after : SideView) (kept' : Kept) (log made : List Attempt) (end : Result ⊤ NodeFault) : Type 0 where
  pub tick : Tick
  pub attempts : tick.attempts ≡ made
  pub ended : tick.end ≡ end
  pub logged : IsLogged kept' (log ++ tick.attempts)
  pub is : IsTickOf rules tick (with_node told old before log) (with_node told new after (log ++ tick.attempts))

pub tick_from : {D : Type 0} (told : D → Bool) (seen : D → List ℕ) (may_leave : D → List ℕ → Type 0) (rules : Rules) (old new : NodeView D) (before after : SideView) (kept kept' : Kept) (result : Result (List Attempt) NodeFault) (log : List Attempt)
    → rules ≡ old.rules → IsLogged kept log → files_told told new ≡ files_told told old → IsNode told seen may_leave new → (t : Ticked before after old new kept kept' result)
    → TickFrom told rules old new before after kept' log t.made (result_map (λ attempts. tt) result)
tick_from told seen may_leave rules old new before after kept kept' result log same logged files is t =
    let now_rules : new.rules ≡ rules = t.rules ∙ sym same in
    let facts : new.entries ≡ changes_of rules old.state new.turns =
    is.changes ∙ ap (λ (r : Rules). changes_of r new.base new.turns) now_rules ∙ ap (λ (s : Sum). changes_of rules s new.turns) t.base in
    let state : new.state ≡ sum_of old.state new.entries =
    is.follows ∙ turns_history new.rules new.base new.turns is.whole ∙ ap (sum_of new.base) (sym is.changes) ∙ ap (λ (s : Sum). sum_of s new.entries) t.base in
    record {
      tick = record { now = t.now; turns = new.turns; facts = new.entries; attempts = t.made; end = result_map (λ attempts. tt) result };
      attempts = refl;
      ended = refl;
      logged = t.notes log logged;
      is = record {
        began = t.began;
        time = t.time;
        tries = subst (λ (r : Rules). IsTick r (ticking t.now) log t.began after new.turns t.made (result_map (λ attempts. tt) result)) (sym same) (t.tick log logged);
        first = is.first;
        answers = subst (λ (s : Sum). AreTrue rules s is.first new.turns) t.base (subst (λ (r : Rules). AreTrue r new.base is.first new.turns) now_rules is.answers);
        facts = facts;
        state = state;
        files = files;
        log = refl;
      };
    }

-- ---- how it ended, by whether the node is broken

-- what the turns of a tick tell of its end
pub ticked_tells : {D : Type 0} (rules : Rules) (old new : NodeView D) (before after : SideView) (kept kept' : Kept) (result : Result (List Attempt) NodeFault) (log : List Attempt)
    → rules ≡ old.rules → IsLogged kept log → Ticked before after old new kept kept' result → Tells new.turns (result_map (λ attempts. tt) result)
ticked_tells rules old new before after kept kept' result log same logged t =
    tick_tells old.rules (ticking t.now) log t.began after new.turns t.made (result_map (λ attempts. tt) result) (t.tick log logged)

-- over a node that isn't broken
whole_end : (fault : NodeFault) → (fault ≡ node.Store → ⊥) → fails_by (of_fault fault) ≡ false
whole_end node.Store not = absurd (not refl)
whole_end (node.Full n) not = refl
whole_end node.Memory not = refl

end_by_own : (fault : NodeFault) (r : Result ⊤ CourierEnd) → r ≡ Err (of_fault fault) → IsEndBy fault r
end_by_own node.Store r h = h
end_by_own (node.Full n) r h = h
end_by_own node.Memory r h = inl h

-- what was put after a tick over a node that is broken: nothing
pub puts_broken : (number : ℕ) (attempts : List Attempt) (end : Result ⊤ NodeFault) (turns : List Turn) (broken_at : Option ℕ) (out : OutputState)
    → Tells turns end → BrokeAt broken_at turns → is_some broken_at ≡ true → PutsTick number attempts end (Err StoreFailed) out out
puts_broken number attempts end turns broken_at out told broke some = by end (broken_ends end turns broken_at told broke some)
  where
    by : (e : Result ⊤ NodeFault) → (e ≡ Err node.Store) ⊎ (e ≡ Err node.Memory) → PutsTick number attempts e (Err StoreFailed) out out
    by (Ok done) (inl h) = absurd cc
    by (Ok done) (inr h) = absurd cc
    by (Err node.Store) h = (refl, refl)
    by (Err (node.Full n)) (inl h) = absurd cc
    by (Err (node.Full n)) (inr h) = absurd cc
    by (Err node.Memory) h = (inr refl, refl)

-- a run that ends with a tick over a node that isn't broken doesn't end with its store
pub whole_breaks : (made : Result (List Attempt) NodeFault) (r : Result ⊤ CourierEnd) (broken_at : Option ℕ) (turns : List Turn) → broken_at ≡ None
    → Tells turns (result_map (λ attempts. tt) made) → BrokeAt broken_at turns → IfErr made (λ fault. r ≡ Err (of_fault fault)) → IfOk made (λ given. IfErr r (λ end. fails_by end ≡ false))
    → IfErr r (λ end. BreaksBy (fails_by end) broken_at)
whole_breaks (Ok attempts) (Ok u) broken_at turns none told broke err ok = tt
whole_breaks (Ok attempts) (Err end) broken_at turns none told broke err ok = subst (λ (b : Bool). BreaksBy b broken_at) (sym ok) none
whole_breaks (Err fault) r broken_at turns none told broke err ok =
    subst (λ (x : Result ⊤ CourierEnd). IfErr x (λ end. BreaksBy (fails_by end) broken_at)) (sym err)
    (subst (λ (b : Bool). BreaksBy b broken_at) (sym (whole_end fault (whole_no_store broken_at turns fault told broke none))) none)

-- what was put, by other names of the attempts and of how the tick ended
pub put_same : (number : ℕ) (own attempts : List Attempt) (e end : Result ⊤ NodeFault) (r : Result ⊤ CourierEnd) (out out' : OutputState) → own ≡ attempts → e ≡ end → PutsTick number attempts end r out out'
    → PutsTick number own e r out out'
put_same number own attempts e end r out out' p q h =
    subst (λ (x : Result ⊤ NodeFault). PutsTick number own x r out out') (sym q) (subst (λ (x : List Attempt). PutsTick number x end r out out') (sym p) h)

-- ---- by a result

pub on_ok : {T E : Type 0} (r : Result T E) (P : Type 0) → ((x : T) → r ≡ Ok x → P) → OnOk r P
on_ok (Ok x) P f = f x refl
on_ok (Err e) P f = tt

pub if_err : {T E : Type 0} (r : Result T E) (P : E → Type 0) → ((e : E) → r ≡ Err e → P e) → IfErr r P
if_err (Ok x) P f = tt
if_err (Err e) P f = f e refl

-- ---- the state after ticks

rows_sum : (rules : Rules) (ticks : List Tick) (base : Sum) (done : List Fact) (a b : Between) → a.state ≡ sum_of base done → AreInRow (IsTickOf rules) ticks a b → b.state ≡ sum_of base (done ++ facts_of ticks)
rows_sum rules [] base done a b same h = ap (λ (s : Between). s.state) h ∙ same ∙ ap (sum_of base) (sym (append-nil done))
rows_sum rules (t ∷ ticks) base done a b same h =
    let next : h.0.state ≡ sum_of base (done ++ t.facts) = h.1.state ∙ ap (λ (s : Sum). sum_of s t.facts) same ∙ sym (joined base done t.facts) in
    rows_sum rules ticks base (done ++ t.facts) h.0 b next h.2 ∙ ap (sum_of base) (append_assoc done t.facts (facts_of ticks))

-- the state after ticks is what the state before them comes to with their facts
pub rows_state : (rules : Rules) (ticks : List Tick) (a b : Between) → sum_of a.state [] ≡ a.state → AreInRow (IsTickOf rules) ticks a b → b.state ≡ sum_of a.state (facts_of ticks)
rows_state rules ticks a b none h = rows_sum rules ticks a.state [] a b (sym none) h
