-- What a node does with a call, by what its parts answered.
use Rattle.std.proofs.Common.{◌≡◌, ◌∙◌, ap, sym, subst, inl, ℕ, ◌+◌, List, length, Bool, true, Option, Some, None, Result, Ok, Err, refl}
use Rattle.std.specs.Prelude.{IfOk, OnErr, IsErrOf, is_some}
use Rattle.sig_json.specs.Answers.{result_map}
use Rattle.sig_outside.specs.Disk.{Stop}
use Rattle.sig_set.specs.declared.trust.Trust.{Trust}
use Rattle.sig_receiver.specs.Receiver.{Received}
use Rattle.sig_journal.specs.Stored.{Stored}
use Rattle.sig_journal.specs.declared.node_fault.NodeFault.{NodeFault}
use Rattle.sig_journal.specs.declared.node_fault.NodeFault.TheVariants.{Store, Memory}
use Rattle.sig_rxnode.specs.declared.answer.RxAnswer.{RxAnswer}
use Rattle.sig_rxnode.specs.declared.call.RxCall.{RxCall}
use Rattle.sig_rxnode.specs.declared.journalled.Told.{Told}
use Rattle.sig_rxnode.specs.declared.turn.RxTurn.{RxTurn}
use Rattle.sig_rxnode.specs.Answers.{answer_of, change_of}
use Rattle.sig_rxnode.specs.Holding.{Holding}
use Rattle.sig_rxnode.specs.Journals.{Adds, Causes, Writes}
use Rattle.sig_rxnode.specs.Node.{NodeView}
use Rattle.sig_rxnode.specs.Take.{Answered, KeepsTurn, Refused, added_by}
use Rattle.sig_rxnode.proofs.HistoryLemmas.{Took}
use Rattle.sig_rxnode.proofs.Mapping.{adds_map, causes_map, err_back, writes_map}

abbrev pub the_answer : Told → RxAnswer
the_answer told = told.answer

answer_map : (one : RxAnswer) (r : Result Told NodeFault) → IfOk r (λ told. (told.answer ≡ one) × (told.copy ≡ told.answer)) → IfOk (result_map the_answer r) (λ a. a ≡ one)
answer_map one (Ok told) h = h.0
answer_map one (Err e) h = tt

-- what holds after a fault
on_fault : {T : Type 0} (P : Type 0) (r : Result T NodeFault) (e : NodeFault) → IsErrOf r e → OnErr r P → P
on_fault P (Ok x) e is h = absurd cc
on_fault P (Err f) e is h = h

module _ {D : Type 0} (trust : Trust) (old : NodeView D) (trusts : trust ≡ old.rules.trust) (kept : Holding D) (turns : List RxTurn) (call : RxCall) (told : Result Told NodeFault) (result : Result RxAnswer NodeFault) (same : result ≡ result_map the_answer told) where
  abbrev new : NodeView D
  new = record { kept = kept; rules = old.rules; turns = turns; opened = old.opened }

  texts_same : change_of trust old.kept.state call ≡ added_by old call
  texts_same = ap (λ (t : Trust). change_of t old.kept.state call) trusts

  pub answered_by : IfOk told (λ t. (t.answer ≡ answer_of trust old.kept.state call) × (t.copy ≡ t.answer)) → Adds (change_of trust old.kept.state call) old.kept kept told → Answered call old new result
  answered_by answer adds = subst (λ (r : Result RxAnswer NodeFault). Answered call old new r) (sym same) (record {
    answer = subst (λ (t : Trust). IfOk (result_map the_answer told) (λ a. a ≡ answer_of t old.kept.state call)) trusts (answer_map (answer_of trust old.kept.state call) told answer);
    adds = subst (λ (ts : List (List ℕ)). Adds ts old.kept kept (result_map the_answer told)) texts_same (adds_map (change_of trust old.kept.state call) old.kept kept the_answer told adds);
    rules = refl;
  })

  pub writes_by : (told_by : D → Bool) (seen : D → List ℕ) (may_leave : D → List ℕ → Type 0) (moment : D → ℕ) (left_since : D → ℕ → List ℕ → Type 0) (stop : D → Option Stop) (short : D → Bool)
      → Writes told_by seen may_leave moment left_since stop short (change_of trust old.kept.state call) old.kept kept told → Writes told_by seen may_leave moment left_since stop short (added_by old call) old.kept kept result
  writes_by told_by seen may_leave moment left_since stop short h =
      subst (λ (r : Result RxAnswer NodeFault). Writes told_by seen may_leave moment left_since stop short (added_by old call) old.kept kept r) (sym same)
      (subst (λ (ts : List (List ℕ)). Writes told_by seen may_leave moment left_since stop short ts old.kept kept (result_map the_answer told)) texts_same
      (writes_map (change_of trust old.kept.state call) old.kept kept the_answer told_by seen may_leave moment left_since stop short told h))

  module _ (faults : D → ℕ) (link turn : ℕ) (counted : turn ≡ length old.turns + 1)
      (adds : Adds (change_of trust old.kept.state call) old.kept kept told)
      (causes : old.kept.store.broken_at ≡ None → Causes faults (change_of trust old.kept.state call) turn old.kept kept told)
      (broken : is_some old.kept.store.broken_at ≡ true → (told ≡ Err Store) × (kept ≡ old.kept))
      (keeps : KeepsTurn old.turns turns link call result) where
    told_fault : (e : NodeFault) → IsErrOf result e → IsErrOf told e
    told_fault e is = err_back the_answer told e (sym same ∙ is)

    -- want of memory left what is held as it was
    same_kept : (at : Option ℕ) → old.kept.store.broken_at ≡ at → IsErrOf told Memory → kept ≡ old.kept
    same_kept (Some place) is err = (broken (ap is_some is)).1
    same_kept None is err =
        let store : kept.store ≡ old.kept.store = (causes is).memory_same err in
        let state : kept.state ≡ old.kept.state = on_fault _ told Memory err adds.state_kept in
        let entries : kept.entries ≡ old.kept.entries = on_fault _ told Memory err adds.entries_kept in
        let make : Stored D → Received → List (List ℕ) → Holding D = λ s r l. record { store = s; state = r; entries = l } in
        ap (λ s. make s kept.state kept.entries) store ∙ ap (λ r. make old.kept.store r kept.entries) state ∙ ap (make old.kept.store old.kept.state) entries

    same_turns : IsErrOf result Memory → turns ≡ old.turns
    same_turns err = subst (λ (r : Result RxAnswer NodeFault). KeepsTurn old.turns turns link call r) err keeps

    pub refused_by : Refused faults call old new result
    refused_by = record {
      broken = λ is. (inl (same ∙ ap (result_map the_answer) (broken is).0), (broken is).1);
      causes = λ whole.
          subst (λ (n : ℕ). Causes faults (added_by old call) n old.kept kept result) counted
          (subst (λ (r : Result RxAnswer NodeFault). Causes faults (added_by old call) turn old.kept kept r) (sym same)
          (subst (λ (ts : List (List ℕ)). Causes faults ts turn old.kept kept (result_map the_answer told)) texts_same
          (causes_map (change_of trust old.kept.state call) old.kept kept the_answer faults turn told (causes whole))));
      memory = λ err.
          let make : Holding D → List RxTurn → NodeView D = λ k ts. record { kept = k; rules = old.rules; turns = ts; opened = old.opened } in
          ap (λ k. make k turns) (same_kept old.kept.store.broken_at refl (told_fault Memory err)) ∙ ap (make old.kept) (same_turns err);
    }

    -- all of it
    pub took_by : (told_by : D → Bool) (seen : D → List ℕ) (may_leave : D → List ℕ → Type 0) (moment : D → ℕ) (left_since : D → ℕ → List ℕ → Type 0) (stop : D → Option Stop) (short : D → Bool)
        → IfOk told (λ t. (t.answer ≡ answer_of trust old.kept.state call) × (t.copy ≡ t.answer)) → Writes told_by seen may_leave moment left_since stop short (change_of trust old.kept.state call) old.kept kept told
        → Took told_by seen may_leave moment left_since stop short faults old new call result
    took_by told_by seen may_leave moment left_since stop short answer writes = record {
      answered = answered_by answer adds;
      writes = writes_by told_by seen may_leave moment left_since stop short writes;
      refused = refused_by;
      opened = refl;
    }
