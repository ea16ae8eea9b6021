-- What follows of a call's answer from what the call is told.
use Rattle.std.proofs.Common.{◌≡◌, ◌∙◌, ap, sym, subst, refl, inl, inr, ℕ, true, false, Option, Some, None, Result, Ok, Err}
use Rattle.std.specs.Prelude.{◌⊎◌, IfOk, IfSome, is_some}
use Rattle.std.proofs.lemmas.Bool.{false≢true}
use Rattle.sig_terms.specs.declared.answer.Answer.{Answer}
use Rattle.sig_terms.specs.declared.call.Call.{Call}
use Rattle.sig_terms.specs.declared.fact.Fact.{Fact}
use Rattle.sig_terms.specs.declared.fault.PrepareFault.{PrepareFault}
use Rattle.sig_terms.specs.declared.fault.PrepareFault.TheVariants as prepare
use Rattle.sig_terms.specs.declared.rules.Rules.{Rules}
use Rattle.sig_terms.specs.Reply.{Reply}
use Rattle.sig_history.specs.Owed.{Sum}
use Rattle.sig_history.specs.Sound.{Fits}
use Rattle.sig_history.specs.Whole.{IsWhole}
use Rattle.sig_history.proofs.WholeLemmas.{whole_after}
use Rattle.sig_calls.specs.Proper.{IsProperCall, IsProperRules}
use Rattle.sig_calls.specs.Table.{change_of, prepared_of, told_of}
use Rattle.sig_calls.proofs.RegularLemmas.{calls_regular}
use Rattle.sig_calls.proofs.ReplyLemmas.{reply_of}
use Rattle.sig_journal.specs.declared.node_fault.NodeFault.{NodeFault}
use Rattle.sig_journal.specs.declared.node_fault.NodeFault.TheVariants.{Store, Full, Memory}
use Rattle.sig_txnode.specs.Answering.{Answered, IsAnswerTo, IsAnswered, answer_at, answer_with, sum_after, when_ok}
use Rattle.sig_txnode.specs.Planned.{refused_as}

-- the change of a reply is that of the table
pub reply_change : (rules : Rules) (sum : Sum) (call : Call) (now : ℕ) (r : Reply) → prepared_of rules sum call now ≡ Ok r → change_of rules sum call now ≡ r.change
reply_change rules sum call now r is = ap (λ (s : Reply). s.change) (reply_of (told_of rules sum call now) r is).reply

-- a call that is answered is told so, and its store isn't broken
pub told_answer : (broken_at : Option ℕ) (told : Result Answer NodeFault) (a : Answer) → IsAnswered broken_at told (Ok a) → (broken_at ≡ None) × (told ≡ Ok a)
told_answer (Some turn) told a (inl is) = absurd cc
told_answer (Some turn) told a (inr is) = absurd cc
told_answer None told a (inl is) = absurd cc
told_answer None told a (inr (inl is)) = let failed : Ok a ≡ Err Store = is.0 in absurd cc
told_answer None told a (inr (inr is)) = (refl, sym is)

-- and so is one that is refused for a number
pub told_full : (broken_at : Option ℕ) (told : Result Answer NodeFault) (n : ℕ) → IsAnswered broken_at told (Err (Full n)) → (broken_at ≡ None) × (told ≡ Err (Full n))
told_full (Some turn) told n (inl is) = absurd cc
told_full (Some turn) told n (inr is) = absurd cc
told_full None told n (inl is) = absurd cc
told_full None told n (inr (inl is)) = let failed : Err (Full n) ≡ Err Store = is.0 in absurd cc
told_full None told n (inr (inr is)) = (refl, sym is)

-- ---- what is whole stays so

changed_whole : (sum : Sum) (change : Option Fact) → IsWhole sum → IfSome change (Fits sum) → IsWhole (sum_after sum change)
changed_whole sum None whole fits = whole
changed_whole sum (Some f) whole fits = whole_after sum f whole fits

with_whole : (rules : Rules) (sum : Sum) (end : ℕ) (call : Call) (now : ℕ) (a : Answer) (r : Result Reply PrepareFault)
    → IsProperRules rules → IsProperCall call → IsWhole sum → prepared_of rules sum call now ≡ r → answer_with end r ≡ Ok a → IsWhole (sum_after sum (change_of rules sum call now))
with_whole rules sum end call now a (Ok reply) proper asked whole is told =
    changed_whole sum (change_of rules sum call now) whole
    ((calls_regular rules sum call now proper whole).fits asked (reply_of (told_of rules sum call now) reply is).low)
with_whole rules sum end call now a (Err (prepare.Number n)) proper asked whole is told = absurd cc
with_whole rules sum end call now a (Err prepare.Memory) proper asked whole is told = absurd cc

-- a proper call leaves what is whole so, whatever it is answered
pub whole_answered : (broken_at : Option ℕ) (rules : Rules) (sum : Sum) (end : ℕ) (call : Call) (now : ℕ) (result : Result Answer NodeFault)
    → IsProperRules rules → IsProperCall call → IsWhole sum → IsAnswered broken_at (answer_at rules sum end call now) result
    → IsWhole (sum_after sum (when_ok result (change_of rules sum call now)))
whole_answered broken_at rules sum end call now (Ok a) proper asked whole h =
    with_whole rules sum end call now a (prepared_of rules sum call now) proper asked whole refl (told_answer broken_at (answer_at rules sum end call now) a h).1
whole_answered broken_at rules sum end call now (Err fault) proper asked whole h = whole

-- ---- from a plan to an answer

pub planned_reply : (r : Result Reply PrepareFault) (reply : Reply) → refused_as r ≡ Ok reply → r ≡ Ok reply
planned_reply (Ok s) reply is = let same : s ≡ reply = cc in ap (λ (x : Reply). Ok x) same
planned_reply (Err (prepare.Number n)) reply is = absurd cc
planned_reply (Err prepare.Memory) reply is = absurd cc

-- a call that was not planned
pub refused_answer : (end : ℕ) (r : Result Reply PrepareFault) (e : NodeFault) → (e ≡ Memory) ⊎ (refused_as r ≡ Err e) → IsAnswered None (answer_with end r) (Err e)
refused_answer end r e (inl is) = inl (ap (λ (x : NodeFault). Err x) is)
refused_answer end (Ok s) e (inr is) = absurd cc
refused_answer end (Err (prepare.Number n)) e (inr is) = let same : Full n ≡ e = cc in inr (inr (ap (λ (x : NodeFault). Err x) (sym same)))
refused_answer end (Err prepare.Memory) e (inr is) = let same : Memory ≡ e = cc in inl (ap (λ (x : NodeFault). Err x) (sym same))

pub not_store : (r : Result Reply PrepareFault) (e : NodeFault) → (e ≡ Memory) ⊎ (refused_as r ≡ Err e) → e ≡ Store → ⊥
not_store r e (inl is) store = cc
not_store (Ok s) e (inr is) store = cc
not_store (Err (prepare.Number n)) e (inr is) store = cc
not_store (Err prepare.Memory) e (inr is) store = cc

-- a store that is broken answers so
pub store_answer : (broken_at : Option ℕ) (told : Result Answer NodeFault) → is_some broken_at ≡ true → IsAnswered broken_at told (Err Store)
store_answer (Some turn) told broken = inr refl
store_answer None told broken = absurd (false≢true broken)

-- memory may always be wanting
pub memory_answer : (broken_at : Option ℕ) (told : Result Answer NodeFault) → IsAnswered broken_at told (Err Memory)
memory_answer (Some turn) told = inl refl
memory_answer None told = inl refl

pub none_at : (o : Option ℕ) → is_some o ≡ false → o ≡ None
none_at None is = refl
none_at (Some n) is = absurd (false≢true (sym is))

-- the same in other words
pub answered_as : (told told' : Result Answer NodeFault) (change change' : Option Fact) (broken_at : Option ℕ) (before before' after : Sum) (result : Result Answer NodeFault)
    → told ≡ told' → change ≡ change' → broken_at ≡ None → before' ≡ before → Answered told' change' None before' after result → Answered told change broken_at before after result
answered_as told told' change change' broken_at before before' after result same_told same_change whole same_before h = record {
  answer = subst (λ (b : Option ℕ). IsAnswered b told result) (sym whole) (subst (λ (t : Result Answer NodeFault). IsAnswered None t result) (sym same_told) h.answer);
  state = h.state ∙ ap (λ (s : Sum). sum_after s (when_ok result change')) same_before ∙ ap (λ (o : Option Fact). sum_after before (when_ok result o)) (sym same_change);
}

-- what is answered is what the table gives to the call at some state
pub answers_row : (broken_at : Option ℕ) (rules : Rules) (sum : Sum) (end : ℕ) (call : Call) (now : ℕ) (result : Result Answer NodeFault)
    → IsAnswered broken_at (answer_at rules sum end call now) result → IfOk result (λ (answer : Answer). IsAnswerTo call now answer)
answers_row broken_at rules sum end call now (Err fault) h = tt
answers_row broken_at rules sum end call now (Ok answer) h = (rules, sum, end, (told_answer broken_at (answer_at rules sum end call now) answer h).1)
