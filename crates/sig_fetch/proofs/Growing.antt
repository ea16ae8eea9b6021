-- What a node's further turns make of it, one part after another.
use Rattle.std.proofs.Common.{◌≡◌, ◌∙◌, ap, sym, subst, refl, ℕ, List, [], ◌∷◌, ◌++◌, append_assoc, append-nil, Result, Ok, Err, IsErrOf}
use Rattle.sig_set.specs.declared.trust.Trust.{Trust}
use Rattle.sig_receiver.specs.Receiver.{Received}
use Rattle.sig_receiver.proofs.KeptLemmas.{none_more}
use Rattle.sig_journal.specs.declared.node_fault.NodeFault.{NodeFault}
use Rattle.sig_journal.specs.declared.node_fault.NodeFault.TheVariants.{Store, Full, Memory}
use Rattle.sig_rxnode.specs.declared.answer.RxAnswer.{RxAnswer}
use Rattle.sig_rxnode.specs.declared.call.RxCall.{RxCall}
use Rattle.sig_rxnode.specs.declared.rules.RxRules.{RxRules}
use Rattle.sig_rxnode.specs.declared.turn.RxTurn.{RxTurn}
use Rattle.sig_rxnode.specs.Node.{NodeView, base_of}
use Rattle.sig_rxnode.specs.Take.{Answered, KeepsTurn, added_by}
use Rattle.sig_rxnode.specs.Turns.{after_turn, after_turns, change_in, changes_of}
use Rattle.sig_fetch.specs.Turns.{AreAnswered, Grows}

-- ---- turns in two parts

pub after_append : (trust : Trust) (state : Received) (xs ys : List RxTurn) → after_turns trust state (xs ++ ys) ≡ after_turns trust (after_turns trust state xs) ys
after_append trust state [] ys = refl
after_append trust state (t ∷ xs) ys = after_append trust (after_turn trust state t) xs ys

changes_append : (trust : Trust) (state : Received) (xs ys : List RxTurn) → changes_of trust state (xs ++ ys) ≡ changes_of trust state xs ++ changes_of trust (after_turns trust state xs) ys
changes_append trust state [] ys = refl
changes_append trust state (t ∷ xs) ys =
    ap (λ (l : List (List ℕ)). change_in trust state t ++ l) (changes_append trust (after_turn trust state t) xs ys)
    ∙ sym (append_assoc (change_in trust state t) (changes_of trust (after_turn trust state t) xs) (changes_of trust (after_turns trust (after_turn trust state t) xs) ys))

answered_append : (trust : Trust) (state : Received) (xs ys : List RxTurn) → AreAnswered trust state xs → AreAnswered trust (after_turns trust state xs) ys → AreAnswered trust state (xs ++ ys)
answered_append trust state [] ys p q = q
answered_append trust state (t ∷ xs) ys p q = (p.0, answered_append trust (after_turn trust state t) xs ys p.1 q)

pub answered_front : (trust : Trust) (state : Received) (xs ys : List RxTurn) → AreAnswered trust state (xs ++ ys) → AreAnswered trust state xs
answered_front trust state [] ys p = tt
answered_front trust state (t ∷ xs) ys p = (p.0, answered_front trust (after_turn trust state t) xs ys p.1)

pub answered_back : (trust : Trust) (state : Received) (xs ys : List RxTurn) → AreAnswered trust state (xs ++ ys) → AreAnswered trust (after_turns trust state xs) ys
answered_back trust state [] ys p = p
answered_back trust state (t ∷ xs) ys p = answered_back trust (after_turn trust state t) xs ys p.1

-- ---- a node

pub grows_none : {D : Type 0} (node : NodeView D) → Grows [] node node
grows_none node = record {
  turns = sym (append-nil node.turns);
  answers = tt;
  state = refl;
  entries = sym (append-nil node.kept.entries);
  rules = refl;
  opened = refl;
  base = refl;
}

pub grows_on : {D : Type 0} (xs ys : List RxTurn) (a b c : NodeView D) → Grows xs a b → Grows ys b c → Grows (xs ++ ys) a c
grows_on xs ys a b c p q =
    let trust = a.rules.trust in
    let trusts : b.rules.trust ≡ trust = ap (λ (r : RxRules). r.trust) p.rules in
    let mid = after_turns trust a.kept.state xs in
    let more : changes_of b.rules.trust b.kept.state ys ≡ changes_of trust mid ys =
    ap (λ (t : Trust). changes_of t b.kept.state ys) trusts ∙ ap (λ (s : Received). changes_of trust s ys) p.state in
    record {
      turns = q.turns ∙ ap (λ (l : List RxTurn). l ++ ys) p.turns ∙ append_assoc a.turns xs ys;
      answers = answered_append trust a.kept.state xs ys p.answers
          (subst (λ (s : Received). AreAnswered trust s ys) p.state (subst (λ (t : Trust). AreAnswered t b.kept.state ys) trusts q.answers));
      state = q.state ∙ ap (λ (t : Trust). after_turns t b.kept.state ys) trusts ∙ ap (λ (s : Received). after_turns trust s ys) p.state ∙ sym (after_append trust a.kept.state xs ys);
      entries = q.entries ∙ ap (λ (l : List (List ℕ)). l ++ changes_of b.rules.trust b.kept.state ys) p.entries
          ∙ append_assoc a.kept.entries (changes_of trust a.kept.state xs) (changes_of b.rules.trust b.kept.state ys)
          ∙ ap (λ (l : List (List ℕ)). a.kept.entries ++ l)
          (ap (λ (l : List (List ℕ)). changes_of trust a.kept.state xs ++ l) more ∙ sym (changes_append trust a.kept.state xs ys));
      rules = q.rules ∙ p.rules;
      opened = q.opened ∙ p.opened;
      base = q.base ∙ p.base;
    }

-- one turn, as a node takes it
pub grows_turn : {D : Type 0} (call : RxCall) (old new : NodeView D) (result : Result RxAnswer NodeFault)
    → (IsErrOf result Memory → ⊥) → Answered call old new result → KeepsTurn old.turns new.turns 0 call result → new.opened ≡ old.opened → base_of new ≡ base_of old
    → Grows (record { link = 0; call = call; result = result } ∷ []) old new
grows_turn call old new (Ok answer) kept a k opened base = record {
  turns = k;
  answers = (a.answer, tt);
  state = a.adds.state;
  entries = a.adds.entries ∙ ap (λ (l : List (List ℕ)). old.kept.entries ++ l) (sym (append-nil (added_by old call)));
  rules = a.rules;
  opened = opened;
  base = base;
}
grows_turn call old new (Err Store) kept a k opened base = record {
  turns = k;
  answers = (tt, tt);
  state = a.adds.state_kept ∙ sym (none_more old.kept.state);
  entries = a.adds.entries_kept ∙ sym (append-nil old.kept.entries);
  rules = a.rules;
  opened = opened;
  base = base;
}
grows_turn call old new (Err (Full n)) kept a k opened base = record {
  turns = k;
  answers = (tt, tt);
  state = a.adds.state_kept ∙ sym (none_more old.kept.state);
  entries = a.adds.entries_kept ∙ sym (append-nil old.kept.entries);
  rules = a.rules;
  opened = opened;
  base = base;
}
grows_turn call old new (Err Memory) kept a k opened base = absurd (kept refl)
