-- What turns come to, and what a further one adds.
use Rattle.std.proofs.Common.{◌≡◌, ◌∙◌, ap, sym, subst, refl, ℕ, List, [], ◌∷◌, ◌++◌, append_assoc, append-nil}
use Rattle.sig_receiver.specs.Receiver.{Received}
use Rattle.sig_receiver.proofs.JournalLemmas.{joins}
use Rattle.sig_receiver.proofs.KeptLemmas.{none_more}
use Rattle.sig_set.specs.declared.trust.Trust.{Trust}
use Rattle.sig_rxnode.specs.declared.turn.RxTurn.{RxTurn}
use Rattle.sig_rxnode.specs.Laws.{TurnsAreAHistory}
use Rattle.sig_rxnode.specs.Turns.{AreTrue, IsTrueResult, after_turn, after_turns, change_in, changes_of, end_after, ends_after}

pub turns_history : TurnsAreAHistory
turns_history trust base [] = sym (none_more base)
turns_history trust base (t ∷ turns) =
    turns_history trust (after_turn trust base t) turns ∙ sym (joins base (change_in trust base t) (changes_of trust (after_turn trust base t) turns))

-- ---- one more turn

pub after_more : (trust : Trust) (base : Received) (turns : List RxTurn) (t : RxTurn)
    → after_turns trust base (turns ++ t ∷ []) ≡ after_turn trust (after_turns trust base turns) t
after_more trust base [] t = refl
after_more trust base (u ∷ turns) t = after_more trust (after_turn trust base u) turns t

pub changes_more : (trust : Trust) (base : Received) (turns : List RxTurn) (t : RxTurn)
    → changes_of trust base (turns ++ t ∷ []) ≡ changes_of trust base turns ++ change_in trust (after_turns trust base turns) t
changes_more trust base [] t = append-nil (change_in trust base t)
changes_more trust base (u ∷ turns) t =
    ap (λ (l : List (List ℕ)). change_in trust base u ++ l) (changes_more trust (after_turn trust base u) turns t)
    ∙ sym (append_assoc (change_in trust base u) (changes_of trust (after_turn trust base u) turns) (change_in trust (after_turns trust (after_turn trust base u) turns) t))

pub ends_more : (end : ℕ) (first second : List (List ℕ)) → ends_after end (first ++ second) ≡ ends_after (ends_after end first) second
ends_more end [] second = refl
ends_more end (text ∷ first) second = ends_more (end_after end text) first second

pub true_more : (trust : Trust) (base : Received) (end : ℕ) (turns : List RxTurn) (t : RxTurn) → AreTrue trust base end turns
    → IsTrueResult trust (after_turns trust base turns) (ends_after end (changes_of trust base turns)) t.call t.result → AreTrue trust base end (turns ++ t ∷ [])
true_more trust base end [] t trues here = (here, tt)
true_more trust base end (u ∷ turns) t trues here = (
  trues.0,
  true_more trust (after_turn trust base u) (ends_after end (change_in trust base u)) turns t trues.1
      (subst (λ (n : ℕ). IsTrueResult trust (after_turns trust (after_turn trust base u) turns) n t.call t.result)
      (ends_more end (change_in trust base u) (changes_of trust (after_turn trust base u) turns)) here),
)
