-- What holds of a node after a turn.
use Rattle.std.proofs.Common.{◌≡◌, ◌∙◌, ◌+◌, ap, sym, subst, refl, inl, inr, ℕ, List, [], ◌∷◌, ◌++◌, length, Bool, true, false, Option, Some, None, Result, Ok, Err, append_assoc, append-nil, length-append, arith}
use Rattle.std.specs.Prelude.{◌⊎◌, IfSome, OnOk, is_some}
use Rattle.std.specs.Option.{option_to_list}
use Rattle.std.proofs.lemmas.Bool.{false≢true}
use Rattle.std.proofs.lemmas.List.Elements.{All-push}
use Rattle.sig_journal.specs.declared.kind.Kind.TheVariants.{Tx}
use Rattle.sig_terms.specs.declared.answer.Answer.{Answer}
use Rattle.sig_terms.specs.declared.call.Call.{Call}
use Rattle.sig_terms.specs.declared.fact.Fact.{Fact}
use Rattle.sig_terms.specs.declared.rules.Rules.{Rules}
use Rattle.sig_history.specs.Owed.{Sum}
use Rattle.sig_history.specs.Whole.{IsWhole}
use Rattle.sig_calls.specs.Proper.{IsProperCall, IsProperRules}
use Rattle.sig_calls.specs.Table.{change_of}
use Rattle.sig_entry.specs.Facts.{spelling_of}
use Rattle.sig_journal.specs.Appended.{Breaks, HasRecord}
use Rattle.sig_journal.specs.declared.node_fault.NodeFault.{NodeFault}
use Rattle.sig_journal.specs.declared.node_fault.NodeFault.TheVariants.{Store, Full, Memory}
use Rattle.sig_journal.specs.Standing.{StandsFor}
use Rattle.sig_journal.specs.Stored.{Stored}
use Rattle.sig_txnode.specs.declared.turn.Turn.{Turn}
use Rattle.sig_txnode.specs.Answering.{Answered, IsAnswered, answer_at, sum_after, when_ok}
use Rattle.sig_txnode.specs.Node.{IsNode, NodeView}
use Rattle.sig_txnode.specs.Records.{sending}
use Rattle.sig_txnode.specs.Taken.{Refused}
use Rattle.sig_txnode.specs.Turns.{AreHeld, BrokeAt, BrokeIn, IsTrueResult, change_in, changes_of, end_after, ends_after, fails, with_turn}
use Rattle.sig_txnode.proofs.AnswerLemmas.{told_answer, told_full, whole_answered}
use Rattle.sig_txnode.proofs.TurnLemmas.{after_more, changes_more, ends_more, true_more}

-- ---- in which turn the store failed

held_more : (turns : List Turn) (t : Turn) → fails t.result ≡ false → AreHeld turns → AreHeld (turns ++ t ∷ [])
held_more turns t is held = All-push (λ (u : Turn). fails u.result ≡ false) turns t held is

failed_first : (turns : List Turn) (t : Turn) → fails t.result ≡ true → AreHeld turns → BrokeIn (length turns + 1) (turns ++ t ∷ [])
failed_first turns t is held = record {
  before = turns;
  after = t ∷ [];
  parts = refl;
  number = refl;
  some = omega arith;
  held = held;
  failed = All-push (λ (u : Turn). fails u.result ≡ true) [] t (λ k d h. absurd (omega arith)) is;
}

failed_more : (turn : ℕ) (turns : List Turn) (t : Turn) → fails t.result ≡ true → BrokeIn turn turns → BrokeIn turn (turns ++ t ∷ [])
failed_more turn turns t is b = record {
  before = b.before;
  after = b.after ++ t ∷ [];
  parts = ap (λ (l : List Turn). l ++ t ∷ []) b.parts ∙ append_assoc b.before b.after (t ∷ []);
  number = b.number;
  some = omega (arith, b.some, length-append b.after (t ∷ []));
  held = b.held;
  failed = All-push (λ (u : Turn). fails u.result ≡ true) b.after t b.failed is;
}

module _ {D : Type 0} (faults : D → ℕ) (old new : Stored D) (turns : List Turn) where
  -- a turn that isn't told so leaves that as it was
  held_after : (t : Turn) → fails t.result ≡ false → old.broken_at ≡ None → new.broken_at ≡ old.broken_at → BrokeAt old.broken_at turns → BrokeAt new.broken_at (turns ++ t ∷ [])
  held_after t is none same broke =
      let held : AreHeld turns = subst (λ (b : Option ℕ). BrokeAt b turns) none broke in
      subst (λ (b : Option ℕ). BrokeAt b (turns ++ t ∷ [])) (sym (same ∙ none)) (held_more turns t is held)

  failed_after : (b : Option ℕ) (t : Turn) → fails t.result ≡ true → old.broken_at ≡ b → (is_some old.broken_at ≡ true → new ≡ old)
      → (is_some old.broken_at ≡ true) ⊎ Breaks faults old new (length turns + 1) → BrokeAt old.broken_at turns → BrokeAt new.broken_at (turns ++ t ∷ [])
  failed_after (Some n) t is at broken why broke =
      let same : new ≡ old = broken (ap is_some at) in
      let stays : new.broken_at ≡ Some n = ap (λ (s : Stored D). s.broken_at) same ∙ at in
      subst (λ (o : Option ℕ). BrokeAt o (turns ++ t ∷ [])) (sym stays) (failed_more n turns t is (subst (λ (o : Option ℕ). BrokeAt o turns) at broke))
  failed_after None t is at broken (inl some) broke = absurd (false≢true (subst (λ (o : Option ℕ). is_some o ≡ true) at some))
  failed_after None t is at broken (inr breaks) broke =
      subst (λ (o : Option ℕ). BrokeAt o (turns ++ t ∷ [])) (sym breaks.at) (failed_first turns t is (subst (λ (o : Option ℕ). BrokeAt o turns) at broke))

  pub broke_after : (link : ℕ) (call : Call) (time : ℕ) (told result : Result Answer NodeFault) → IsAnswered old.broken_at told result
      → Refused faults old new (length turns + 1) result → BrokeAt old.broken_at turns → BrokeAt new.broken_at (with_turn turns link call time result)
  broke_after link call time told (Ok a) h r broke =
      held_after (record { link = link; call = call; now = time; result = Ok a }) refl (told_answer old.broken_at told a h).0 (r.whole (λ is. absurd cc)) broke
  broke_after link call time told (Err Store) h r broke =
      failed_after old.broken_at (record { link = link; call = call; now = time; result = Err Store }) refl refl r.broken (r.store refl) broke
  broke_after link call time told (Err (Full n)) h r broke =
      held_after (record { link = link; call = call; now = time; result = Err (Full n) }) refl (told_full old.broken_at told n h).0 (r.whole (λ is. absurd cc)) broke
  broke_after link call time told (Err Memory) h r broke =
      subst (λ (s : Stored D). BrokeAt s.broken_at turns) (sym (r.memory refl)) broke

  -- ---- where the journal ends

  pub added_end : {T : Type 0} (told : D → Bool) (seen : D → List ℕ) (may_leave : D → List ℕ → Type 0) (change : Option Fact) (result : Result T NodeFault) → (change ≡ None → new ≡ old)
      → IfSome change (λ f. OnOk result (HasRecord told seen may_leave old new (spelling_of f))) → OnOk result (new.journal.end ≡ end_after old.journal.end change)
  added_end told seen may_leave None (Ok x) idle added = ap (λ (s : Stored D). s.journal.end) (idle refl)
  added_end told seen may_leave (Some f) (Ok x) idle added = added.ends
  added_end told seen may_leave change (Err e) idle added = tt

  -- a store that isn't broken after a turn wasn't before, and ends where the turn's change does
  pub end_here : (change : Option Fact) (told result : Result Answer NodeFault) → IsAnswered old.broken_at told result → Refused faults old new (length turns + 1) result
      → OnOk result (new.journal.end ≡ end_after old.journal.end change) → new.broken_at ≡ None
      → (old.broken_at ≡ None) × (new.journal.end ≡ end_after old.journal.end (when_ok result change))
  end_here change told (Ok a) h r ends whole = ((told_answer old.broken_at told a h).0, ends)
  end_here change told (Err Store) h r ends whole = absurd (not_whole (r.store refl) r.broken whole)
    where
      not_whole : (is_some old.broken_at ≡ true) ⊎ Breaks faults old new (length turns + 1) → (is_some old.broken_at ≡ true → new ≡ old) → new.broken_at ≡ None → ⊥
      not_whole (inl some) broken none =
          let same : old.broken_at ≡ None = ap (λ (s : Stored D). s.broken_at) (sym (broken some)) ∙ none in
          false≢true (subst (λ (o : Option ℕ). is_some o ≡ true) same some)
      not_whole (inr breaks) broken none = let is : Some (length turns + 1) ≡ None = sym breaks.at ∙ none in cc
  end_here change told (Err (Full n)) h r ends whole =
      ((told_full old.broken_at told n h).0, ap (λ (s : Stored D). s.journal.end) (r.full n refl))
  end_here change told (Err Memory) h r ends whole =
      let same = r.memory refl in
      (ap (λ (s : Stored D). s.broken_at) (sym same) ∙ whole, ap (λ (s : Stored D). s.journal.end) same)

-- ---- the node after a turn

-- what a turn left, but for the lists that are kept of it
pub record Left {D : Type 0} (told : D → Bool) (seen : D → List ℕ) (may_leave : D → List ℕ → Type 0) (faults : D → ℕ) (old : NodeView D) (store : Stored D) (state : Sum) (call : Call) (time : ℕ) (result : Result Answer NodeFault) : Type 0 where
  pub proper : IsProperCall call
  pub answered : Answered (answer_at old.rules old.state old.store.journal.end call time) (change_of old.rules old.state call time) old.store.broken_at old.state state result
  pub refused : Refused faults old.store store (length old.turns + 1) result
  pub added : OnOk result (store.journal.end ≡ end_after old.store.journal.end (change_of old.rules old.state call time))
  pub kind : store.journal.kind ≡ Tx
  pub stands : StandsFor sending told seen may_leave store state

module _ {D : Type 0} (told : D → Bool) (seen : D → List ℕ) (may_leave : D → List ℕ → Type 0) (faults : D → ℕ) (old : NodeView D) (node : IsNode told seen may_leave old) (store : Stored D) (state : Sum) where
  -- the node after a turn, with one turn more or none
  abbrev with : List Fact → List Turn → NodeView D
  with entries turns = record { store = store; rules = old.rules; state = state; base = old.base; entries = entries; turns = turns }

  -- one turn more
  one_more : (t : Turn) (left : Left told seen may_leave faults old store state t.call t.now t.result)
      → ((end : ℕ) → (old.store.broken_at ≡ None → old.store.journal.end ≡ end) → IsTrueResult old.rules old.state end t.call t.now t.result)
      → BrokeAt store.broken_at (old.turns ++ t ∷ [])
      → IsNode told seen may_leave (with (old.entries ++ option_to_list (change_in old.rules old.state t)) (old.turns ++ t ∷ []))
  one_more t left here broke =
      let change : Option Fact = change_in old.rules old.state t in
      let true_here : IsTrueResult old.rules old.state (ends_after node.first old.entries) t.call t.now t.result = here (ends_after node.first old.entries) node.ends in
      record {
        proper = node.proper;
        whole = node.whole;
        whole_now = subst IsWhole (sym left.answered.state) (whole_answered old.store.broken_at old.rules old.state old.store.journal.end t.call t.now t.result node.proper left.proper node.whole_now left.answered.answer);
        follows = left.answered.state ∙ ap (λ (s : Sum). sum_after s (change_in old.rules s t)) node.follows ∙ sym (after_more old.rules old.base old.turns t);
        changes = ap (λ (l : List Fact). l ++ option_to_list change) node.changes
            ∙ ap (λ (s : Sum). changes_of old.rules old.base old.turns ++ option_to_list (change_in old.rules s t)) node.follows ∙ sym (changes_more old.rules old.base old.turns t);
        first = node.first;
        ends = λ whole.
            let both = end_here faults old.store store old.turns (change_of old.rules old.state t.call t.now) (answer_at old.rules old.state old.store.journal.end t.call t.now) t.result left.answered.answer left.refused left.added whole in
            both.1 ∙ ap (λ (n : ℕ). end_after n change) (node.ends both.0) ∙ sym (ends_more node.first old.entries change);
        answers = true_more old.rules old.base node.first old.turns t node.answers
            (subst (λ (s : Sum). IsTrueResult old.rules s (ends_after node.first (changes_of old.rules old.base old.turns)) t.call t.now t.result) node.follows
            (subst (λ (l : List Fact). IsTrueResult old.rules old.state (ends_after node.first l) t.call t.now t.result) node.changes true_here));
        broke = broke;
        kind = left.kind;
        stands = left.stands;
      }

  -- or none, where memory was refused
  none_more : (call : Call) (time : ℕ) → Left told seen may_leave faults old store state call time (Err Memory) → IsNode told seen may_leave (with (old.entries ++ []) old.turns)
  none_more call time left =
      let same : store ≡ old.store = left.refused.memory refl in
      record {
        proper = node.proper;
        whole = node.whole;
        whole_now = subst IsWhole (sym left.answered.state) node.whole_now;
        follows = left.answered.state ∙ node.follows;
        changes = append-nil old.entries ∙ node.changes;
        first = node.first;
        ends = λ whole. ap (λ (s : Stored D). s.journal.end) same ∙ node.ends (ap (λ (s : Stored D). s.broken_at) (sym same) ∙ whole) ∙ ap (ends_after node.first) (sym (append-nil old.entries));
        answers = node.answers;
        broke = subst (λ (s : Stored D). BrokeAt s.broken_at old.turns) (sym same) node.broke;
        kind = left.kind;
        stands = left.stands;
      }

  pub node_after : (link : ℕ) (call : Call) (time : ℕ) (result : Result Answer NodeFault) → Left told seen may_leave faults old store state call time result
      → IsNode told seen may_leave (with (old.entries ++ option_to_list (when_ok result (change_of old.rules old.state call time))) (with_turn old.turns link call time result))
  node_after link call time (Ok a) left =
      let is = told_answer old.store.broken_at (answer_at old.rules old.state old.store.journal.end call time) a left.answered.answer in
      one_more (record { link = link; call = call; now = time; result = Ok a }) left (λ (end : ℕ) at. subst (λ (n : ℕ). answer_at old.rules old.state n call time ≡ Ok a) (at is.0) is.1)
      (broke_after faults old.store store old.turns link call time (answer_at old.rules old.state old.store.journal.end call time) (Ok a) left.answered.answer left.refused node.broke)
  node_after link call time (Err Store) left =
      one_more (record { link = link; call = call; now = time; result = Err Store }) left (λ (end : ℕ) at. tt)
      (broke_after faults old.store store old.turns link call time (answer_at old.rules old.state old.store.journal.end call time) (Err Store) left.answered.answer left.refused node.broke)
  node_after link call time (Err (Full n)) left =
      let is = told_full old.store.broken_at (answer_at old.rules old.state old.store.journal.end call time) n left.answered.answer in
      one_more (record { link = link; call = call; now = time; result = Err (Full n) }) left (λ (end : ℕ) at. subst (λ (n' : ℕ). answer_at old.rules old.state n' call time ≡ Err (Full n)) (at is.0) is.1)
      (broke_after faults old.store store old.turns link call time (answer_at old.rules old.state old.store.journal.end call time) (Err (Full n)) left.answered.answer left.refused node.broke)
  node_after link call time (Err Memory) left = none_more call time left

  pub node_kept : (link : ℕ) (call : Call) (time : ℕ) (result : Result Answer NodeFault) (entries : List Fact) (turns : List Turn) → Left told seen may_leave faults old store state call time result
      → entries ≡ old.entries ++ option_to_list (when_ok result (change_of old.rules old.state call time)) → turns ≡ with_turn old.turns link call time result
      → IsNode told seen may_leave (record { store = store; rules = old.rules; state = state; base = old.base; entries = entries; turns = turns })
  node_kept link call time result entries turns left is_entries is_turns =
      subst (λ (l : List Fact). IsNode told seen may_leave (with l turns)) (sym is_entries)
      (subst (λ (l : List Turn). IsNode told seen may_leave (with (old.entries ++ option_to_list (when_ok result (change_of old.rules old.state call time))) l)) (sym is_turns)
      (node_after link call time result left))

-- want of memory leaves a node as it was
pub same_node : {D : Type 0} (old : NodeView D) (store : Stored D) (state : Sum) (entries : List Fact) (turns : List Turn) (change : Option Fact) (link : ℕ) (call : Call) (time : ℕ) (result : Result Answer NodeFault)
    → result ≡ Err Memory → store ≡ old.store → state ≡ sum_after old.state (when_ok result change) → entries ≡ old.entries ++ option_to_list (when_ok result change)
    → turns ≡ with_turn old.turns link call time result
    → (let new : NodeView D = record { store = store; rules = old.rules; state = state; base = old.base; entries = entries; turns = turns } in new ≡ old)
same_node old store state entries turns change link call time (Ok a) is same_store same_state same_entries same_turns = absurd cc
same_node old store state entries turns change link call time (Err Store) is same_store same_state same_entries same_turns = absurd cc
same_node old store state entries turns change link call time (Err (Full n)) is same_store same_state same_entries same_turns = absurd cc
same_node old store state entries turns change link call time (Err Memory) is same_store same_state same_entries same_turns =
    let kept = same_entries ∙ append-nil old.entries in
    λ i. record { store = same_store i; rules = old.rules; state = same_state i; base = old.base; entries = kept i; turns = same_turns i }

-- a node with no turn since its base
fresh : {D : Type 0} (told : D → Bool) (seen : D → List ℕ) (may_leave : D → List ℕ → Type 0) (store : Stored D) (rules : Rules) (state : Sum)
    → IsProperRules rules → IsWhole state → store.broken_at ≡ None → store.journal.kind ≡ Tx → StandsFor sending told seen may_leave store state
    → IsNode told seen may_leave (record { store = store; rules = rules; state = state; base = state; entries = []; turns = [] })
fresh told seen may_leave store rules state proper whole unbroken kind stands = record {
  proper = proper;
  whole = whole;
  whole_now = whole;
  follows = refl;
  changes = refl;
  first = store.journal.end;
  ends = λ _. refl;
  answers = tt;
  broke = subst (λ (b : Option ℕ). BrokeAt b []) (sym unbroken) (λ k d h. absurd (omega arith));
  kind = kind;
  stands = stands;
}

pub new_node : {D : Type 0} (told : D → Bool) (seen : D → List ℕ) (may_leave : D → List ℕ → Type 0) (store : Stored D) (rules : Rules) (state base : Sum) (entries : List Fact) (turns : List Turn)
    → IsProperRules rules → IsWhole state → base ≡ state → entries ≡ [] → turns ≡ [] → store.broken_at ≡ None → store.journal.kind ≡ Tx → StandsFor sending told seen may_leave store state
    → IsNode told seen may_leave (record { store = store; rules = rules; state = state; base = base; entries = entries; turns = turns })
new_node told seen may_leave store rules state base entries turns proper whole same_base no_entry no_turn unbroken kind stands =
    subst (λ (l : List Turn). IsNode told seen may_leave (record { store = store; rules = rules; state = state; base = base; entries = entries; turns = l })) (sym no_turn)
    (subst (λ (l : List Fact). IsNode told seen may_leave (record { store = store; rules = rules; state = state; base = base; entries = l; turns = [] })) (sym no_entry)
    (subst (λ (s : Sum). IsNode told seen may_leave (record { store = store; rules = rules; state = state; base = s; entries = []; turns = [] })) (sym same_base)
    (fresh told seen may_leave store rules state proper whole unbroken kind stands)))
