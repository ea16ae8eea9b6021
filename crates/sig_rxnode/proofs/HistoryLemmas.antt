-- The turns of a node stay one history.
use Rattle.std.proofs.Common.{◌≡◌, ◌∙◌, ◌+◌, ◌≤◌, ap, sym, subst, refl, inl, inr, ⊎_elim, ℕ, List, [], ◌∷◌, ◌++◌, length, take, drop, Bool, Option, Some, None, Result, Ok, Err, append-nil, length-append, arith}
use Rattle.std.specs.Prelude.{◌⊎◌, IsErrOf, is_some}
use Rattle.std.proofs.lemmas.List.{drop-append-le, drop_all, take-append-le, take_all}
use Rattle.sig_outside.specs.Disk.{Stop}
use Rattle.sig_journal.specs.declared.kind.Kind.TheVariants.{Rx}
use Rattle.sig_receiver.specs.Receiver.{Received, nothing, received_of}
use Rattle.sig_receiver.proofs.KeptLemmas.{none_more}
use Rattle.sig_journal.specs.Appended.{WritesOne}
use Rattle.sig_journal.specs.Stored.{Stored}
use Rattle.sig_journal.specs.declared.node_fault.NodeFault.{NodeFault}
use Rattle.sig_journal.specs.declared.node_fault.NodeFault.TheVariants.{Store, Full, Memory}
use Rattle.sig_rxnode.specs.declared.answer.RxAnswer.{RxAnswer}
use Rattle.sig_rxnode.specs.declared.call.RxCall.{RxCall}
use Rattle.sig_rxnode.specs.declared.rules.RxRules.{RxRules}
use Rattle.sig_rxnode.specs.declared.turn.RxTurn.{RxTurn}
use Rattle.sig_rxnode.specs.Answers.{answer_of}
use Rattle.sig_rxnode.specs.Holding.{Holding, IsHolding}
use Rattle.sig_rxnode.specs.Journals.{Passes, Writes}
use Rattle.sig_rxnode.specs.Node.{IsHistory, NodeView, base_of, since_of}
use Rattle.sig_rxnode.specs.Take.{Answered, Refused, added_by}
use Rattle.sig_rxnode.specs.Turns.{AreTrue, BrokeAt, IsTrueResult, after_turns, change_in, changes_of, end_after, ends_after, when_ok, with_turn}
use Rattle.sig_rxnode.proofs.AddsOne.{AddsOne, adds_one, room_full, room_ok}
use Rattle.sig_rxnode.proofs.Broke.{failed_first, failed_more, held_after}
use Rattle.sig_rxnode.proofs.TurnLemmas.{after_more, changes_more, ends_more, true_more}

-- what a call left of a node, by what the node's parts answered
pub record Took {D : Type 0} (told : D → Bool) (seen : D → List ℕ) (may_leave : D → List ℕ → Type 0) (moment : D → ℕ) (left_since : D → ℕ → List ℕ → Type 0) (stop : D → Option Stop) (short : D → Bool) (faults : D → ℕ) (old new : NodeView D) (call : RxCall) (result : Result RxAnswer NodeFault) : Type 0 where
  pub answered : Answered call old new result
  pub writes : Writes told seen may_leave moment left_since stop short (added_by old call) old.kept new.kept result
  pub refused : Refused faults call old new result
  pub opened : new.opened ≡ old.opened

-- a journal that stays is written at no file
same_one : {D : Type 0} (told : D → Bool) (old new : Stored D) → new ≡ old → WritesOne told old.journal new.journal
same_one {D} told old new same = subst (λ (s : Stored D). WritesOne told old.journal s.journal) (sym same) (record { other = refl; in_b = refl; kind = refl; told_same = refl })

module _ {D : Type 0} (told : D → Bool) (seen : D → List ℕ) (may_leave : D → List ℕ → Type 0) (moment : D → ℕ) (left_since : D → ℕ → List ℕ → Type 0) (stop : D → Option Stop) (short : D → Bool) (faults : D → ℕ) (old new : NodeView D) where
  abbrev Left : RxCall → Result RxAnswer NodeFault → Type 0
  Left call result = Took told seen may_leave moment left_since stop short faults old new call result

  module _ (call : RxCall) where
    abbrev one : AddsOne (added_by old call)
    one = adds_one old.rules.trust old.kept.state call

    -- ---- whether its store was and is broken

    unbroken : (result : Result RxAnswer NodeFault) (b : Option ℕ) → old.kept.store.broken_at ≡ b → Left call result → (result ≡ Err Store → ⊥) → (result ≡ Err Memory → ⊥) → old.kept.store.broken_at ≡ None
    unbroken result None at took not_store not_memory = at
    unbroken result (Some n) at took not_store not_memory = absurd (⊎_elim not_store not_memory (took.refused.broken (ap is_some at)).0)

    ok_whole : (a : RxAnswer) → Left call (Ok a) → old.kept.store.broken_at ≡ None
    ok_whole a took = unbroken (Ok a) old.kept.store.broken_at refl took (λ is. absurd cc) (λ is. absurd cc)

    full_whole : (n : ℕ) → Left call (Err (Full n)) → old.kept.store.broken_at ≡ None
    full_whole n took = unbroken (Err (Full n)) old.kept.store.broken_at refl took (λ is. absurd cc) (λ is. absurd cc)

    -- a text that has no room is refused, and a call is refused for a number where its text has none
    full_store : (n : ℕ) → Left call (Err (Full n)) → new.kept.store ≡ old.kept.store
    full_store n took = (took.refused.causes (full_whole n took)).full_same n refl

    memory_same : Left call (Err Memory) → new ≡ old
    memory_same took = took.refused.memory refl

    -- ---- which file was written

    -- a store that wasn't broken, where a text was added
    carried_files : (result : Result RxAnswer NodeFault) → old.kept.store.broken_at ≡ None → (IsErrOf result Memory → ⊥) → Left call result → WritesOne told old.kept.store.journal new.kept.store.journal
    carried_files result whole carried took =
        ⊎_elim (λ none. same_one told old.kept.store new.kept.store (took.writes.unwritten none)) (λ some. (took.writes.durable some.0 some.1 whole carried).files) one

    store_files : (b : Option ℕ) → old.kept.store.broken_at ≡ b → Left call (Err Store) → WritesOne told old.kept.store.journal new.kept.store.journal
    store_files (Some n) at took = same_one told old.kept.store new.kept.store (ap (λ (k : Holding D). k.store) (took.refused.broken (ap is_some at)).1)
    store_files None at took = carried_files (Err Store) at (λ is. absurd cc) took

    pub one_file : (result : Result RxAnswer NodeFault) → Left call result → WritesOne told old.kept.store.journal new.kept.store.journal
    one_file (Ok a) took = carried_files (Ok a) (ok_whole a took) (λ is. absurd cc) took
    one_file (Err Store) took = store_files old.kept.store.broken_at refl took
    one_file (Err (Full n)) took = same_one told old.kept.store new.kept.store (full_store n took)
    one_file (Err Memory) took = same_one told old.kept.store new.kept.store (ap (λ (v : NodeView D). v.kept.store) (memory_same took))

    -- ---- what was added

    pub state_after : (result : Result RxAnswer NodeFault) → Left call result → new.kept.state ≡ received_of old.kept.state (when_ok result (added_by old call))
    state_after (Ok a) took = took.answered.adds.state
    state_after (Err e) took = took.answered.adds.state_kept ∙ sym (none_more old.kept.state)

    entries_after : (result : Result RxAnswer NodeFault) → Left call result → new.kept.entries ≡ old.kept.entries ++ when_ok result (added_by old call)
    entries_after (Ok a) took = took.answered.adds.entries
    entries_after (Err e) took = took.answered.adds.entries_kept ∙ sym (append-nil old.kept.entries)

    -- where the journal ends, where its store isn't broken now
    abbrev EndsWith : Result RxAnswer NodeFault → Type 0
    EndsWith result = (old.kept.store.broken_at ≡ None) × (new.kept.store.journal.end ≡ ends_after old.kept.store.journal.end (when_ok result (added_by old call)))

    ok_end : (a : RxAnswer) → Left call (Ok a) → AddsOne (added_by old call) → new.kept.store.journal.end ≡ ends_after old.kept.store.journal.end (added_by old call)
    ok_end a took (inl none) =
        ap (λ (s : Stored D). s.journal.end) (took.writes.unwritten none) ∙ ap (ends_after old.kept.store.journal.end) (sym none)
    ok_end a took (inr some) = (took.writes.added some.0 some.1).ends ∙ ap (ends_after old.kept.store.journal.end) (sym some.1)

    store_broken : (b : Option ℕ) → old.kept.store.broken_at ≡ b → Left call (Err Store) → new.kept.store.broken_at ≡ None → ⊥
    store_broken (Some n) at took whole =
        let stays : new.kept.store.broken_at ≡ Some n = ap (λ (k : Holding D). k.store.broken_at) (took.refused.broken (ap is_some at)).1 ∙ at in
        let is : Some n ≡ None = sym stays ∙ whole in cc
    store_broken None at took whole =
        let fails = (took.refused.causes at).store refl in
        let is : Some (length old.turns + 1) ≡ None = sym fails.breaks.at ∙ whole in cc

    end_here : (result : Result RxAnswer NodeFault) → Left call result → new.kept.store.broken_at ≡ None → EndsWith result
    end_here (Ok a) took whole = (ok_whole a took, ok_end a took one)
    end_here (Err Store) took whole = absurd (store_broken old.kept.store.broken_at refl took whole)
    end_here (Err (Full n)) took whole = (full_whole n took, ap (λ (s : Stored D). s.journal.end) (full_store n took))
    end_here (Err Memory) took whole =
        let same = memory_same took in
        (ap (λ (v : NodeView D). v.kept.store.broken_at) (sym same) ∙ whole, ap (λ (v : NodeView D). v.kept.store.journal.end) same)

    -- ---- what it was answered

    pub ok_true : (a : RxAnswer) (end : ℕ) → (old.kept.store.broken_at ≡ None → old.kept.store.journal.end ≡ end) → Left call (Ok a) → IsTrueResult old.rules.trust old.kept.state end call (Ok a)
    ok_true a end ends took =
        let whole = ok_whole a took in
        let at = ends whole in
        let make : RxAnswer → Result RxAnswer NodeFault = λ x. Ok x in
        room_ok end (answer_of old.rules.trust old.kept.state call) (added_by old call) one
        (λ text adds past. not_full (end_after end text) ((took.refused.causes whole).must (end_after end text) (record { text = text; adds = adds; ends = ap (λ (n : ℕ). end_after n text) (sym at); past = past })))
        ∙ ap make (sym took.answered.answer)
      where
        not_full : (n : ℕ) → ((let r : Result RxAnswer NodeFault = Ok a in r) ≡ Err (Full n)) ⊎ ((let r : Result RxAnswer NodeFault = Ok a in r) ≡ Err Memory) → ⊥
        not_full n (inl is) = absurd cc
        not_full n (inr is) = absurd cc

    pub full_true : (n end : ℕ) → (old.kept.store.broken_at ≡ None → old.kept.store.journal.end ≡ end) → Left call (Err (Full n)) → IsTrueResult old.rules.trust old.kept.state end call (Err (Full n))
    full_true n end ends took =
        let whole = full_whole n took in
        let passes : Passes old.kept (added_by old call) n = (took.refused.causes whole).full n refl in
        room_full end (answer_of old.rules.trust old.kept.state call) (added_by old call) passes.text n passes.adds (passes.ends ∙ ap (λ (m : ℕ). end_after m passes.text) (ends whole)) passes.past

    -- ---- in which turn the store failed

    pub ok_broke : (link : ℕ) (a : RxAnswer) → Left call (Ok a) → BrokeAt old.kept.store.broken_at old.turns → BrokeAt new.kept.store.broken_at (with_turn old.turns link call (Ok a))
    ok_broke link a took broke =
        held_after old.kept.store.broken_at new.kept.store.broken_at old.turns (record { link = link; call = call; result = Ok a }) refl (ok_whole a took)
        (⊎_elim (λ none. ap (λ (s : Stored D). s.broken_at) (took.writes.unwritten none) ∙ ok_whole a took) (λ some. (took.writes.added some.0 some.1).whole) one) broke

    pub full_broke : (link n : ℕ) → Left call (Err (Full n)) → BrokeAt old.kept.store.broken_at old.turns → BrokeAt new.kept.store.broken_at (with_turn old.turns link call (Err (Full n)))
    full_broke link n took broke =
        held_after old.kept.store.broken_at new.kept.store.broken_at old.turns (record { link = link; call = call; result = Err (Full n) }) refl (full_whole n took)
        (ap (λ (s : Stored D). s.broken_at) (full_store n took) ∙ full_whole n took) broke

    pub store_broke : (link : ℕ) (b : Option ℕ) → old.kept.store.broken_at ≡ b → Left call (Err Store) → BrokeAt old.kept.store.broken_at old.turns → BrokeAt new.kept.store.broken_at (with_turn old.turns link call (Err Store))
    store_broke link (Some n) at took broke =
        failed_more old.kept.store.broken_at new.kept.store.broken_at n old.turns (record { link = link; call = call; result = Err Store }) refl at
        (ap (λ (k : Holding D). k.store.broken_at) (took.refused.broken (ap is_some at)).1 ∙ at) broke
    store_broke link None at took broke =
        failed_first old.kept.store.broken_at new.kept.store.broken_at old.turns (record { link = link; call = call; result = Err Store }) refl at
        ((took.refused.causes at).store refl).breaks.at broke

  -- ---- the node after a turn

  module _ (history : IsHistory old) (t : RxTurn) (took : Left t.call t.result) where
    abbrev added : List (List ℕ)
    added = change_in old.rules.trust old.kept.state t

    entries : new.kept.entries ≡ old.kept.entries ++ added
    entries = entries_after t.call t.result took

    pub base_after : base_of new ≡ base_of old
    base_after =
        ap (received_of nothing) (ap (λ (n : ℕ). take n new.kept.entries) took.opened ∙ ap (take old.opened) entries ∙ take-append-le old.opened old.kept.entries added history.within)

    since_after : since_of new ≡ since_of old ++ added
    since_after = ap (λ (n : ℕ). drop n new.kept.entries) took.opened ∙ ap (drop old.opened) entries ∙ drop-append-le old.opened old.kept.entries added history.within

    -- one turn more
    one_more : new.turns ≡ old.turns ++ t ∷ [] → ((end : ℕ) → (old.kept.store.broken_at ≡ None → old.kept.store.journal.end ≡ end) → IsTrueResult old.rules.trust old.kept.state end t.call t.result)
        → BrokeAt new.kept.store.broken_at (old.turns ++ t ∷ []) → IsHistory new
    one_more turns here broke =
        let first = history.first in
        let base = base_of old in
        let trues : AreTrue old.rules.trust base first (old.turns ++ t ∷ []) =
        true_more old.rules.trust base first old.turns t history.answers
        (subst (λ (s : Received). IsTrueResult old.rules.trust s (ends_after first (changes_of old.rules.trust base old.turns)) t.call t.result) history.follows
        (subst (λ (l : List (List ℕ)). IsTrueResult old.rules.trust old.kept.state (ends_after first l) t.call t.result) history.changes (here (ends_after first (since_of old)) history.ends))) in
        record {
          within = omega (arith, history.within, took.opened, ap (λ (l : List (List ℕ)). length l) entries, length-append old.kept.entries added);
          changes = since_after ∙ ap (λ (l : List (List ℕ)). l ++ added) history.changes
              ∙ ap (λ (s : Received). changes_of old.rules.trust base old.turns ++ change_in old.rules.trust s t) history.follows
              ∙ sym (changes_more old.rules.trust base old.turns t) ∙ sym changes_same;
          follows = state_after t.call t.result took ∙ ap (λ (s : Received). received_of s (change_in old.rules.trust s t)) history.follows ∙ sym (after_more old.rules.trust base old.turns t) ∙ sym after_same;
          first = first;
          ends = λ whole.
              let both = end_here t.call t.result took whole in
              both.1 ∙ ap (λ (n : ℕ). ends_after n added) (history.ends both.0) ∙ sym (ends_more first (since_of old) added) ∙ ap (ends_after first) (sym since_after);
          answers = subst (λ (r : RxRules). AreTrue r.trust (base_of new) first new.turns) (sym took.answered.rules)
              (subst (λ (s : Received). AreTrue old.rules.trust s first new.turns) (sym base_after)
              (subst (λ (l : List RxTurn). AreTrue old.rules.trust base first l) (sym turns) trues));
          broke = subst (λ (l : List RxTurn). BrokeAt new.kept.store.broken_at l) (sym turns) broke;
          kind = (one_file t.call t.result took).kind ∙ history.kind;
        }
      where
        changes_same : changes_of new.rules.trust (base_of new) new.turns ≡ changes_of old.rules.trust (base_of old) (old.turns ++ t ∷ [])
        changes_same = ap (λ (r : RxRules). changes_of r.trust (base_of new) new.turns) took.answered.rules
            ∙ ap (λ (s : Received). changes_of old.rules.trust s new.turns) base_after ∙ ap (changes_of old.rules.trust (base_of old)) turns

        after_same : after_turns new.rules.trust (base_of new) new.turns ≡ after_turns old.rules.trust (base_of old) (old.turns ++ t ∷ [])
        after_same = ap (λ (r : RxRules). after_turns r.trust (base_of new) new.turns) took.answered.rules
            ∙ ap (λ (s : Received). after_turns old.rules.trust s new.turns) base_after ∙ ap (after_turns old.rules.trust (base_of old)) turns

  pub history_after : (link : ℕ) (call : RxCall) (result : Result RxAnswer NodeFault) → IsHistory old → Left call result → new.turns ≡ with_turn old.turns link call result → IsHistory new
  history_after link call (Ok a) history took turns =
      one_more history (record { link = link; call = call; result = Ok a }) took turns (λ end ends. ok_true call a end ends took) (ok_broke call link a took history.broke)
  history_after link call (Err Store) history took turns =
      one_more history (record { link = link; call = call; result = Err Store }) took turns (λ end ends. tt) (store_broke call link old.kept.store.broken_at refl took history.broke)
  history_after link call (Err (Full n)) history took turns =
      one_more history (record { link = link; call = call; result = Err (Full n) }) took turns (λ end ends. full_true call n end ends took) (full_broke call link n took history.broke)
  history_after link call (Err Memory) history took turns = subst IsHistory (sym (memory_same call took)) history

  pub base_kept : (link : ℕ) (call : RxCall) (result : Result RxAnswer NodeFault) → IsHistory old → Left call result → base_of new ≡ base_of old
  base_kept link call result history took = base_after history (record { link = link; call = call; result = result }) took

-- ---- without a turn

-- a node with no turn since it was loaded or its watch was opened
pub fresh : {D : Type 0} (told : D → Bool) (seen : D → List ℕ) (may_leave : D → List ℕ → Type 0) (node : NodeView D) → IsHolding told seen may_leave node.kept → node.opened ≡ length node.kept.entries → node.turns ≡ []
    → node.kept.store.broken_at ≡ None → node.kept.store.journal.kind ≡ Rx → IsHistory node
fresh told seen may_leave node holds opened no_turn whole kind =
    let trust = node.rules.trust in
    let end = node.kept.store.journal.end in
    let all : length node.kept.entries ≤ node.opened = omega (arith, opened) in
    let none : since_of node ≡ [] = drop_all node.opened node.kept.entries all in
    record {
      within = omega (arith, opened);
      changes = none ∙ ap (changes_of trust (base_of node)) (sym no_turn);
      follows = holds.replays ∙ ap (received_of nothing) (sym (take_all node.opened node.kept.entries all)) ∙ ap (after_turns trust (base_of node)) (sym no_turn);
      first = end;
      ends = λ _. ap (ends_after end) (sym none);
      answers = subst (λ (l : List RxTurn). AreTrue trust (base_of node) end l) (sym no_turn) tt;
      broke = subst (λ (l : List RxTurn). BrokeAt node.kept.store.broken_at l) (sym no_turn) (subst (λ (b : Option ℕ). BrokeAt b []) (sym whole) (λ k d h. absurd (omega arith)));
      kind = kind;
    }
