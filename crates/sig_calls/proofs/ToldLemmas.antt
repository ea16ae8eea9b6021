-- What a call is told, by its shape: it changes nothing, or makes a fact that tells no stream anything, or one that makes
-- tokens. Each shape is lawful for one reason, whatever the call is.
use Rattle.std.proofs.Common.{◌≡◌, ◌∙◌, ap, sym, subst, ℕ, ◌≤◌, List, [], true, false, ◌||◌, Option, Some, None, IfSome, if◌then◌else◌, refl, true≢false}
use Rattle.std.specs.Prelude.{All}
use Rattle.std.specs.List.{list_any}
use Rattle.std.proofs.lemmas.Bool.{and_from, not_from_false}
use Rattle.std.proofs.lemmas.List.Elements.{All-nil}
use Rattle.sig_json.specs.declared.limits.TheConstants.{LAST_NUMBER}
use Rattle.sig_terms.specs.declared.rules.Rules.{Rules}
use Rattle.sig_terms.specs.declared.answer.Answer.{Answer}
use Rattle.sig_terms.specs.declared.answer.Answer.TheVariants as answer
use Rattle.sig_terms.specs.declared.call.Call.{Call}
use Rattle.sig_terms.specs.declared.fact.Fact.{Fact}
use Rattle.sig_history.specs.Streams.{Made}
use Rattle.sig_history.specs.Facts.{brought_by, made_by}
use Rattle.sig_history.specs.Owed.{Sum}
use Rattle.sig_history.specs.Ours.{IsOurFact}
use Rattle.sig_history.specs.Sound.{is_apt, is_long, is_past, largest}
use Rattle.sig_history.specs.Whole.{IsWhole}
use Rattle.sig_calls.specs.Laws.{goes_past, is_past_stream}
use Rattle.sig_calls.specs.Proper.{IsProperCall}
use Rattle.sig_calls.specs.Regular.{IsOwedAfter, IsRegular, acknowledges, handed_by}
use Rattle.sig_calls.specs.Told.{Told, making, only, with_change}
use Rattle.sig_calls.proofs.SilentLemmas.{IsSilent, none_made, nothing_may_be_made}

-- it goes past exactly where its fact does, and over what is whole it is regular
pub record IsLawful (rules : Rules) (sum : Sum) (call : Call) (now : ℕ) (t : Told) : Type 0 where
  pub exact : t.over ≡ goes_past sum.parts t.change
  pub regular : IsWhole sum → IsRegular rules sum call now t

-- ---- an answer that changes nothing

pub answer_lawful : (rules : Rules) (sum : Sum) (call : Call) (now : ℕ) (a : Answer) → (IsWhole sum → All (IsOwedAfter sum None) (handed_by a))
    → IsLawful rules sum call now (only a)
answer_lawful rules sum call now a hands = record {
  exact = refl;
  regular = λ whole. record { fits = λ proper low. tt; ours = λ proper early. tt; hands = hands whole; acked = tt };
}

-- an answer that hands out nothing hands out what is owed
none_handed : (sum : Sum) (change : Option Fact) (a : Answer) → handed_by a ≡ [] → All (IsOwedAfter sum change) (handed_by a)
none_handed sum change a none = subst (All (IsOwedAfter sum change)) (sym none) (All-nil (IsOwedAfter sum change))

pub only_lawful : (rules : Rules) (sum : Sum) (call : Call) (now : ℕ) (a : Answer) → handed_by a ≡ [] → IsLawful rules sum call now (only a)
only_lawful rules sum call now a none = answer_lawful rules sum call now a (λ whole. none_handed sum None a none)

-- ---- an answer with a fact

-- a fact that a call may make: it brings no stream, it is apt, it is as the rules have it, and it acknowledges nothing
pub record MayFollow (rules : Rules) (sum : Sum) (call : Call) (now : ℕ) (f : Fact) : Type 0 where
  pub brings : brought_by sum.parts f ≡ None
  pub apt : IsWhole sum → IsProperCall call → is_apt sum f ≡ true
  pub ours : IsProperCall call → now ≤ LAST_NUMBER → IsOurFact rules.issuer f
  pub quiet : (m : Made) → acknowledges f m ≡ false

fact_exact : (rules : Rules) (sum : Sum) (call : Call) (now : ℕ) (f : Fact) → MayFollow rules sum call now f
    → list_any is_past (made_by sum.parts f) ≡ goes_past sum.parts (Some f)
fact_exact rules sum call now f may = ap (λ o. is_past_stream o || list_any is_past (made_by sum.parts f)) (sym may.brings)

pub change_lawful : (rules : Rules) (sum : Sum) (call : Call) (now : ℕ) (a : Answer) (f : Fact) → handed_by a ≡ [] → IsSilent f
    → MayFollow rules sum call now f → IsLawful rules sum call now (with_change a (Some f))
change_lawful rules sum call now a f none silent may = record {
  exact = sym (ap (list_any is_past) (none_made sum.parts f silent)) ∙ fact_exact rules sum call now f may;
  regular = λ whole. record {
    fits = λ proper low. and_from _ _ (nothing_may_be_made sum.parts f silent) (may.apt whole proper);
    ours = may.ours;
    hands = none_handed sum (Some f) a none;
    acked = λ m there counts. absurd (true≢false (sym counts ∙ may.quiet m));
  };
}

-- a fact that a call may make, and that tells no stream anything
pub record MayChange (rules : Rules) (sum : Sum) (call : Call) (now : ℕ) (f : Fact) : Type 0 where
  pub silent : IsSilent f
  pub may : MayFollow rules sum call now f

pub maybe_lawful : (rules : Rules) (sum : Sum) (call : Call) (now : ℕ) (a : Answer) (change : Option Fact) → handed_by a ≡ []
    → IfSome change (MayChange rules sum call now) → IsLawful rules sum call now (with_change a change)
maybe_lawful rules sum call now a None none may = only_lawful rules sum call now a none
maybe_lawful rules sum call now a (Some f) none may = change_lawful rules sum call now a f none may.silent may.may

-- ---- an answer with a fact that makes tokens

pub making_lawful : (rules : Rules) (sum : Sum) (call : Call) (now : ℕ) (a : Answer) (f : Fact) → handed_by a ≡ []
    → MayFollow rules sum call now f → IsLawful rules sum call now (making sum.parts a f)
making_lawful rules sum call now a f none may =
    let tokens : List Made = made_by sum.parts f in
    elim (is_long tokens) as (λ b. is_long tokens ≡ b → IsLawful rules sum call now
    (if b then only (answer.Long (largest tokens)) else record { answer = a; change = Some f; over = list_any is_past tokens })) [
      | true ↦ λ long. only_lawful rules sum call now (answer.Long (largest tokens)) refl
      | false ↦ λ short. record {
        exact = fact_exact rules sum call now f may;
        regular = λ whole. record {
          fits = λ proper low. and_from _ _ (and_from _ _ (not_from_false _ low) (not_from_false _ short)) (may.apt whole proper);
          ours = may.ours;
          hands = none_handed sum (Some f) a none;
          acked = λ m there counts. absurd (true≢false (sym counts ∙ may.quiet m));
        };
      }
    ] refl
