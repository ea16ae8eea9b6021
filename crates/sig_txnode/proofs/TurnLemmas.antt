-- What turns come to, and what a further one adds.
use Rattle.std.proofs.Common.{◌≡◌, ◌∙◌, ap, sym, subst, refl, ℕ, List, [], ◌∷◌, ◌++◌, Option, Some, None, append_assoc, append-nil}
use Rattle.std.specs.Option.{option_to_list}
use Rattle.sig_terms.specs.declared.fact.Fact.{Fact}
use Rattle.sig_terms.specs.declared.rules.Rules.{Rules}
use Rattle.sig_history.specs.Owed.{Sum, sum_of}
use Rattle.sig_history.specs.Whole.{IsWhole}
use Rattle.sig_history.proofs.JoinLemmas.{joined}
use Rattle.sig_owing.proofs.SoundLemmas.{unchanged}
use Rattle.sig_txnode.specs.declared.turn.Turn.{Turn}
use Rattle.sig_txnode.specs.Answering.{sum_after}
use Rattle.sig_txnode.specs.Turns.{AreTrue, IsTrueResult, after_turn, after_turns, change_in, changes_of, end_after, ends_after}

-- what a base comes to with facts, and the base itself where there are none
abbrev sum_with : Sum → List Fact → Sum
sum_with base [] = base
sum_with base (f ∷ fs) = sum_of base (f ∷ fs)

with_first : (base : Sum) (f : Fact) (fs : List Fact) → sum_with (sum_of base (f ∷ [])) fs ≡ sum_of base (f ∷ fs)
with_first base f [] = refl
with_first base f (g ∷ fs) = sym (joined base (f ∷ []) (g ∷ fs))

with_change : (base : Sum) (o : Option Fact) (fs : List Fact) → sum_with (sum_after base o) fs ≡ sum_with base (option_to_list o ++ fs)
with_change base None fs = refl
with_change base (Some f) fs = with_first base f fs

after_with : (rules : Rules) (base : Sum) (turns : List Turn) → after_turns rules base turns ≡ sum_with base (changes_of rules base turns)
after_with rules base [] = refl
after_with rules base (t ∷ turns) =
    after_with rules (after_turn rules base t) turns ∙ with_change base (change_in rules base t) (changes_of rules (after_turn rules base t) turns)

with_whole : (base : Sum) (fs : List Fact) → IsWhole base → sum_with base fs ≡ sum_of base fs
with_whole base [] whole = sym (unchanged base whole)
with_whole base (f ∷ fs) whole = refl

-- the state after turns is what the base comes to with their changes
pub turns_history : (rules : Rules) (base : Sum) (turns : List Turn) → IsWhole base → after_turns rules base turns ≡ sum_of base (changes_of rules base turns)
turns_history rules base turns whole = after_with rules base turns ∙ with_whole base (changes_of rules base turns) whole

-- ---- one more turn

pub after_more : (rules : Rules) (base : Sum) (turns : List Turn) (t : Turn)
    → after_turns rules base (turns ++ t ∷ []) ≡ after_turn rules (after_turns rules base turns) t
after_more rules base [] t = refl
after_more rules base (u ∷ turns) t = after_more rules (after_turn rules base u) turns t

pub changes_more : (rules : Rules) (base : Sum) (turns : List Turn) (t : Turn)
    → changes_of rules base (turns ++ t ∷ []) ≡ changes_of rules base turns ++ option_to_list (change_in rules (after_turns rules base turns) t)
changes_more rules base [] t = append-nil (option_to_list (change_in rules base t))
changes_more rules base (u ∷ turns) t =
    ap (λ (l : List Fact). option_to_list (change_in rules base u) ++ l) (changes_more rules (after_turn rules base u) turns t)
    ∙ sym (append_assoc (option_to_list (change_in rules base u)) (changes_of rules (after_turn rules base u) turns) (option_to_list (change_in rules (after_turns rules (after_turn rules base u) turns) t)))

ends_with : (end : ℕ) (o : Option Fact) (fs : List Fact) → ends_after end (option_to_list o ++ fs) ≡ ends_after (end_after end o) fs
ends_with end None fs = refl
ends_with end (Some f) fs = refl

pub ends_more : (end : ℕ) (fs : List Fact) (o : Option Fact) → ends_after end (fs ++ option_to_list o) ≡ end_after (ends_after end fs) o
ends_more end [] None = refl
ends_more end [] (Some f) = refl
ends_more end (g ∷ fs) o = ends_more (end_after end (Some g)) fs o

pub true_more : (rules : Rules) (base : Sum) (end : ℕ) (turns : List Turn) (t : Turn) → AreTrue rules base end turns
    → IsTrueResult rules (after_turns rules base turns) (ends_after end (changes_of rules base turns)) t.call t.now t.result → AreTrue rules base end (turns ++ t ∷ [])
true_more rules base end [] t trues here = (here, tt)
true_more rules base end (u ∷ turns) t trues here = (
  trues.0,
  true_more rules (after_turn rules base u) (end_after end (change_in rules base u)) turns t trues.1
      (subst (λ (n : ℕ). IsTrueResult rules (after_turns rules (after_turn rules base u) turns) n t.call t.now t.result)
      (ends_with end (change_in rules base u) (changes_of rules (after_turn rules base u) turns)) here),
)
