-- Why a node ends a fetch, and what becomes of its store, one part after another.
use Rattle.std.proofs.Common.{◌≡◌, ◌⊎◌, ◌∙◌, ap, sym, subst, refl, inl, inr, ℕ, ◌+◌, List, [], ◌∷◌, ◌++◌, length, Bool, true, Option, Some, None, is_some, Result, Ok, Err, IsErrOf}
use Rattle.std.specs.Prelude.{⊤}
use Rattle.std.proofs.lemmas.List.{length-append}
use Rattle.sig_outside.specs.Causes.{Raised}
use Rattle.sig_outside.specs.Disk.{Stop}
use Rattle.sig_receiver.specs.declared.heard.Heard.{Heard}
use Rattle.sig_receiver.specs.declared.heard.Heard.TheVariants as heard
use Rattle.sig_receiver.specs.Journal.{journal_by}
use Rattle.sig_receiver.specs.Receiver.{Received, heard_at}
use Rattle.sig_set.specs.declared.trust.Trust.{Trust}
use Rattle.sig_journal.specs.Appended.{Breaks, WritesOne}
use Rattle.sig_journal.specs.Stored.{Stored}
use Rattle.sig_journal.specs.declared.node_fault.NodeFault.{NodeFault}
use Rattle.sig_journal.specs.declared.node_fault.NodeFault.TheVariants as node
use Rattle.sig_rxnode.specs.declared.answer.RxAnswer.{RxAnswer}
use Rattle.sig_rxnode.specs.declared.call.RxCall.{RxCall}
use Rattle.sig_rxnode.specs.declared.call.RxCall.TheVariants as call
use Rattle.sig_rxnode.specs.declared.rules.RxRules.{RxRules}
use Rattle.sig_rxnode.specs.declared.turn.RxTurn.{RxTurn}
use Rattle.sig_rxnode.specs.Answers.{change_of}
use Rattle.sig_rxnode.specs.Journals.{Passes, Writes}
use Rattle.sig_rxnode.specs.Node.{NodeView}
use Rattle.sig_rxnode.specs.Turns.{end_after}
use Rattle.sig_rxnode.specs.Take.{Answered, KeepsTurn, Refused, added_by}
use Rattle.sig_fetch.specs.Rounds.{end_of}
use Rattle.sig_fetch.specs.Turns.{Halts, IsFull}
use Rattle.sig_fetch.specs.declared.fault.FetchFault.{FetchFault}
use Rattle.sig_fetch.specs.declared.fault.FetchFault.TheVariants.{Store, Full, Memory}

-- ---- without a turn

files_none : {D : Type 0} (told : D → Bool) (node : NodeView D) → WritesOne told node.kept.store.journal node.kept.store.journal
files_none told node = record { other = refl; in_b = refl; kind = refl; told_same = refl }

-- an end that isn't the node's
pub halts_none : {D T : Type 0} (told : D → Bool) (faults : D → ℕ) (node : NodeView D) (end : Result T FetchFault)
    → (IsErrOf end Store → ⊥) → ((n : ℕ) → IsErrOf end (Full n) → ⊥) → Halts told faults node node end
halts_none told faults node end store full = record {
  store = λ h. absurd (store h);
  full = λ n h. absurd (full n h);
  whole = λ h. refl;
  steady = λ h. refl;
  files = files_none told node;
}

-- ---- in two parts

no_err : {T : Type 0} (x : T) (e : FetchFault) (h : IsErrOf {T = T} {E = FetchFault} (Ok x) e) → ⊥
no_err x e h = cc

pub halts_begun : {D T : Type 0} (told : D → Bool) (faults : D → ℕ) (node : NodeView D) (x : T) → Halts told faults node node (Ok x)
halts_begun told faults node x = halts_none told faults node (Ok x) (no_err x Store) (λ n. no_err x (Full n))

breaks_on : {D : Type 0} (faults : D → ℕ) (a b c : Stored D) (turn : ℕ) → faults b.journal.written ≡ faults a.journal.written → Breaks faults b c turn → Breaks faults a c turn
breaks_on faults a b c turn same h = record { rose = subst (λ (n : ℕ). Raised n (faults c.journal.written)) same h.rose; at = h.at }

pub halts_on : {D T U : Type 0} (told : D → Bool) (faults : D → ℕ) (a b c : NodeView D) (x : T) (end : Result U FetchFault)
    → Halts told faults a b (Ok x) → Halts told faults b c end → Halts told faults a c end
halts_on {D} {T} {U} told faults a b c x end p q =
    let whole = p.whole (no_err x Store) in
    let steady = p.steady (no_err x Store) in
    record {
      store = λ h. by_store whole steady (q.store h);
      full = q.full;
      whole = λ h. q.whole h ∙ whole;
      steady = λ h. q.steady h ∙ steady;
      files = record {
        other = q.files.other ∙ p.files.other;
        in_b = q.files.in_b ∙ p.files.in_b;
        kind = q.files.kind ∙ p.files.kind;
        told_same = q.files.told_same ∙ p.files.told_same;
      };
    }
  where
    by_store : b.kept.store.broken_at ≡ a.kept.store.broken_at → faults b.kept.store.journal.written ≡ faults a.kept.store.journal.written
        → (is_some b.kept.store.broken_at ≡ true) ⊎ Breaks faults b.kept.store c.kept.store (length c.turns)
        → (is_some a.kept.store.broken_at ≡ true) ⊎ Breaks faults a.kept.store c.kept.store (length c.turns)
    by_store whole steady (inl h) = inl (sym (ap is_some whole) ∙ h)
    by_store whole steady (inr h) = inr (breaks_on faults a.kept.store b.kept.store c.kept.store (length c.turns) steady h)

-- the same end with another value
pub halts_ok : {D T U : Type 0} (told : D → Bool) (faults : D → ℕ) (a b : NodeView D) (x : T) (y : U) → Halts told faults a b (Ok x) → Halts told faults a b (Ok y)
halts_ok told faults a b x y p = record {
  store = λ h. absurd (no_err y Store h);
  full = λ n h. absurd (no_err y (Full n) h);
  whole = λ h. p.whole (no_err x Store);
  steady = λ h. p.steady (no_err x Store);
  files = p.files;
}

same_err : {T U : Type 0} (e f : FetchFault) → IsErrOf {T = T} (Err e) f → IsErrOf {T = U} (Err e) f
same_err {T} {U} e f h = let make : FetchFault → Result U FetchFault = λ x. Err x in let same : e ≡ f = cc in ap make same

pub halts_err : {D T U : Type 0} (told : D → Bool) (faults : D → ℕ) (a b : NodeView D) (e : FetchFault) → Halts {T = T} told faults a b (Err e) → Halts {T = U} told faults a b (Err e)
halts_err {D} {T} {U} told faults a b e p = record {
  store = λ h. p.store (same_err {T = U} {U = T} e Store h);
  full = λ n h. p.full n (same_err {T = U} {U = T} e (Full n) h);
  whole = λ h. p.whole (λ k. h (same_err {T = T} {U = U} e Store k));
  steady = λ h. p.steady (λ k. h (same_err {T = T} {U = U} e Store k));
  files = p.files;
}

-- ---- one turn

-- a call adds a text or none
text_or_none : (h : Heard) (text : List ℕ) → (journal_by h [] text ≡ []) ⊎ (journal_by h [] text ≡ text ∷ [])
text_or_none heard.Accepted text = inr refl
text_or_none heard.Seen text = inl refl
text_or_none (heard.NotTaken code spot) text = inl refl

one_or_none : (trust : Trust) (state : Received) (c : RxCall) → (change_of trust state c ≡ []) ⊎ ((text : List ℕ) × (change_of trust state c ≡ text ∷ []))
one_or_none trust state (call.Token principal named bytes) = by (text_or_none (heard_at trust principal named state bytes) bytes)
  where
    by : (journal_by (heard_at trust principal named state bytes) [] bytes ≡ []) ⊎ (journal_by (heard_at trust principal named state bytes) [] bytes ≡ bytes ∷ [])
        → (journal_by (heard_at trust principal named state bytes) [] bytes ≡ []) ⊎ ((text : List ℕ) × (journal_by (heard_at trust principal named state bytes) [] bytes ≡ text ∷ []))
    by (inl h) = inl h
    by (inr h) = inr (bytes, h)
one_or_none trust state (call.Verdict subject) = inl refl
one_or_none trust state (call.Rows from) = inl refl
one_or_none trust state call.Figures = inl refl

-- a broken node has no answer
whole_before : {D : Type 0} (faults : D → ℕ) (c : RxCall) (old new : NodeView D) (r : Result RxAnswer NodeFault)
    → (IsErrOf r node.Store → ⊥) → (IsErrOf r node.Memory → ⊥) → Refused faults c old new r → old.kept.store.broken_at ≡ None
whole_before faults c old new r store memory refused = by old.kept.store.broken_at refl
  where
    by_end : (r ≡ Err node.Store) ⊎ (r ≡ Err node.Memory) → ⊥
    by_end (inl h) = store h
    by_end (inr h) = memory h

    by : (o : Option ℕ) → old.kept.store.broken_at ≡ o → old.kept.store.broken_at ≡ None
    by None e = e
    by (Some n) e = absurd (by_end (refused.broken (ap is_some e)).0)

-- what `take` ensures of a call with this result
pub record Took {D : Type 0} (told : D → Bool) (seen : D → List ℕ) (may_leave : D → List ℕ → Type 0) (moment : D → ℕ) (left_since : D → ℕ → List ℕ → Type 0) (stop : D → Option Stop) (short : D → Bool) (faults : D → ℕ) (c : RxCall) (old new : NodeView D) (r : Result RxAnswer NodeFault) : Type 0 where
  pub answered : Answered c old new r
  pub turn : KeepsTurn old.turns new.turns 0 c r
  pub writes : Writes told seen may_leave moment left_since stop short (added_by old c) old.kept new.kept r
  pub refused : Refused faults c old new r
  pub files : WritesOne told old.kept.store.journal new.kept.store.journal
  pub opened : new.opened ≡ old.opened

module _ {D : Type 0} (told : D → Bool) (seen : D → List ℕ) (may_leave : D → List ℕ → Type 0) (moment : D → ℕ) (left_since : D → ℕ → List ℕ → Type 0) (stop : D → Option Stop) (short : D → Bool) (faults : D → ℕ) (c : RxCall) (old new : NodeView D) where
  -- an answer leaves the store whole
  whole_after : (a : RxAnswer) → Took told seen may_leave moment left_since stop short faults c old new (Ok a) → old.kept.store.broken_at ≡ None → new.kept.store.broken_at ≡ old.kept.store.broken_at
  whole_after a t whole = by (one_or_none old.rules.trust old.kept.state c)
    where
      by : (added_by old c ≡ []) ⊎ ((text : List ℕ) × (added_by old c ≡ text ∷ [])) → new.kept.store.broken_at ≡ old.kept.store.broken_at
      by (inl h) = ap (λ (s : Stored D). s.broken_at) (t.writes.unwritten h)
      by (inr (text, h)) = (t.writes.added text h).whole ∙ sym whole

  no_store : (a : RxAnswer) (e : NodeFault) (h : IsErrOf {T = RxAnswer} {E = NodeFault} (Ok a) e) → ⊥
  no_store a e h = cc

  halts_answered : (a : RxAnswer) → Took told seen may_leave moment left_since stop short faults c old new (Ok a) → Halts {T = ⊤} told faults old new (Ok tt)
  halts_answered a t =
      let whole = whole_before faults c old new (Ok a) (no_store a node.Store) (no_store a node.Memory) t.refused in
      record {
        store = λ h. absurd (no_err tt Store h);
        full = λ n h. absurd (no_err tt (Full n) h);
        whole = λ h. whole_after a t whole;
        steady = λ h. (t.refused.causes whole).steady (no_store a node.Store);
        files = t.files;
      }

  one_longer : (x : RxTurn) → new.turns ≡ old.turns ++ x ∷ [] → length old.turns + 1 ≡ length new.turns
  one_longer x k = sym (ap length k ∙ length-append old.turns (x ∷ []))

  halts_store : Took told seen may_leave moment left_since stop short faults c old new (Err node.Store) → Halts {T = ⊤} told faults old new (Err Store)
  halts_store t = record {
    store = λ h. by old.kept.store.broken_at refl;
    full = λ n h. absurd (not_full n h);
    whole = λ h. absurd (h refl);
    steady = λ h. absurd (h refl);
    files = t.files;
  }
    where
      not_full : (n : ℕ) → IsErrOf {T = ⊤} (Err Store) (Full n) → ⊥
      not_full n h = cc

      by : (o : Option ℕ) → old.kept.store.broken_at ≡ o → (is_some old.kept.store.broken_at ≡ true) ⊎ Breaks faults old.kept.store new.kept.store (length new.turns)
      by (Some n) e = inl (ap is_some e)
      by None e = inr (subst (λ (n : ℕ). Breaks faults old.kept.store new.kept.store n) (one_longer _ t.turn) ((t.refused.causes e).store refl).breaks)

  full_same : (m : ℕ) → Took told seen may_leave moment left_since stop short faults c old new (Err (node.Full m)) → old.kept.store.broken_at ≡ None → new.kept.store ≡ old.kept.store
  full_same m t whole = (t.refused.causes whole).full_same m refl

  passes_now : (m : ℕ) → new.kept.store ≡ old.kept.store → added_by new c ≡ added_by old c → Passes old.kept (added_by old c) m → Passes new.kept (added_by new c) m
  passes_now m store adds p = record {
    text = p.text;
    adds = adds ∙ p.adds;
    ends = p.ends ∙ sym (ap (λ (s : Stored D). end_after s.journal.end p.text) store);
    past = p.past;
  }

  halts_full : (m : ℕ) → Took told seen may_leave moment left_since stop short faults c old new (Err (node.Full m)) → Halts {T = ⊤} told faults old new (Err (Full m))
  halts_full m t =
      let whole = whole_before faults c old new (Err (node.Full m)) no_break no_memory t.refused in
      let same = full_same m t whole in
      let causes = t.refused.causes whole in
      let adds : added_by new c ≡ added_by old c =
      ap (λ (r : RxRules). change_of r.trust new.kept.state c) t.answered.rules ∙ ap (λ (s : Received). change_of old.rules.trust s c) t.answered.adds.state_kept in
      record {
        store = λ h. absurd (not_store h);
        full = λ n h. subst (λ (k : ℕ). IsFull new k) (number n h) (record { earlier = old.turns; call = c; last = t.turn; passes = passes_now m same adds (causes.full m refl) });
        whole = λ h. ap (λ (s : Stored D). s.broken_at) same;
        steady = λ h. ap (λ (s : Stored D). faults s.journal.written) same;
        files = t.files;
      }
    where
      no_break : IsErrOf {T = RxAnswer} (Err (node.Full m)) node.Store → ⊥
      no_break h = cc

      no_memory : IsErrOf {T = RxAnswer} (Err (node.Full m)) node.Memory → ⊥
      no_memory h = cc

      not_store : IsErrOf {T = ⊤} (Err (Full m)) Store → ⊥
      not_store h = cc

      number : (n : ℕ) → IsErrOf {T = ⊤} (Err (Full m)) (Full n) → m ≡ n
      number n h = cc

  halts_memory : Took told seen may_leave moment left_since stop short faults c old new (Err node.Memory) → Halts {T = ⊤} told faults old new (Err Memory)
  halts_memory t = subst (λ (n : NodeView D). Halts {T = ⊤} told faults old n (Err Memory)) (sym (t.refused.memory refl)) (halts_none told faults old (Err Memory) not_store not_full)
    where
      not_store : IsErrOf {T = ⊤} (Err Memory) Store → ⊥
      not_store h = cc

      not_full : (n : ℕ) → IsErrOf {T = ⊤} (Err Memory) (Full n) → ⊥
      not_full n h = cc

  pub halts_turn : (r : Result RxAnswer NodeFault) → Took told seen may_leave moment left_since stop short faults c old new r → Halts told faults old new (end_of r)
  halts_turn (Ok a) t = halts_answered a t
  halts_turn (Err node.Store) t = halts_store t
  halts_turn (Err (node.Full m)) t = halts_full m t
  halts_turn (Err node.Memory) t = halts_memory t
