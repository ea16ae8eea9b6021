-- Facts that settle tokens: they fit where they name what is owed.
use Rattle.std.proofs.Common.{◌≡◌, ap, sym, ℕ, List, [], ◌∷◌, true, false, ◌&&◌, ◌==◌, Option, IfSome, is_none, bytes_eq, refl, Bool}
use Rattle.std.specs.Prelude.{All, Contains}
use Rattle.std.specs.List.{list_any}
use Rattle.std.proofs.lemmas.Bool.{and_from, and_parts}
use Rattle.sig_terms.specs.declared.rules.Rules.{Rules}
use Rattle.sig_terms.specs.declared.answer.Answer.{Answer}
use Rattle.sig_terms.specs.declared.call.Call.{Call}
use Rattle.sig_terms.specs.declared.fact.Fact.{Fact}
use Rattle.sig_terms.specs.declared.fact.Fact.TheVariants.{Settled}
use Rattle.sig_terms.specs.declared.fact.SettledItem.{SettledItem}
use Rattle.sig_history.specs.Streams.{Made, Parts, stands}
use Rattle.sig_history.specs.Owed.{Sum, owed_by}
use Rattle.sig_history.specs.Sound.{Fits, are_owed, each_once, is_past}
use Rattle.sig_history.specs.Whole.{IsWhole}
use Rattle.sig_calls.specs.Laws.{goes_past}
use Rattle.sig_calls.specs.Regular.{IsOurFact, IsOwedAfter, acknowledges, acks, handed_by}
use Rattle.sig_calls.specs.Settling.{settled_fact}
use Rattle.sig_calls.specs.Told.{with_change}
use Rattle.sig_calls.proofs.SilentLemmas.{none_made, nothing_may_be_made}
use Rattle.sig_calls.proofs.ToldLemmas.{IsLawful}

-- ---- items that settle

-- items are of these tokens, each number once
pub record AreOf (ts : List Made) (items : List SettledItem) : Type 0 where
  pub owed : are_owed items ts ≡ true
  pub once : each_once items ≡ true

pub settled_fits : (sum : Sum) (stream : List ℕ) (items : List SettledItem) → stands stream sum.parts.streams ≡ true → AreOf (owed_by sum stream) items
    → IfSome (settled_fact stream items) (Fits sum)
settled_fits sum stream [] here are = tt
settled_fits sum stream (i ∷ items) here are =
    and_from _ _ (nothing_may_be_made sum.parts (Settled stream (i ∷ items)) (λ s. refl)) (and_from _ _ (and_from _ _ here are.owed) are.once)

pub settled_ours : (issuer stream : List ℕ) (items : List SettledItem) → IfSome (settled_fact stream items) (IsOurFact issuer)
settled_ours issuer stream [] = tt
settled_ours issuer stream (i ∷ items) = tt

-- an item settles this number without a code
abbrev pub is_clear : ℕ → SettledItem → Bool
is_clear number i = (i.number == number) && is_none i.code

-- a call says that a token was taken, where its fact counts it as acknowledged
abbrev pub CountsAcked : Sum → Call → Option Fact → Type 0
CountsAcked sum call change = IfSome change (λ f. (m : Made) → Contains (owed_by sum m.stream) m → acknowledges f m ≡ true → acks call m ≡ true)

pub settled_acked : (sum : Sum) (call : Call) (stream : List ℕ) (items : List SettledItem)
    → ((m : Made) → Contains (owed_by sum m.stream) m → bytes_eq stream m.stream ≡ true → list_any (is_clear m.number) items ≡ true → acks call m ≡ true)
    → CountsAcked sum call (settled_fact stream items)
settled_acked sum call stream [] each = tt
settled_acked sum call stream (i ∷ items) each = λ m there counts.
    let both = and_parts (bytes_eq stream m.stream) (list_any (is_clear m.number) (i ∷ items)) counts in
    each m there both.0 both.1

-- ---- an answer with what settles

settled_stays : (parts : Parts) (stream : List ℕ) (items : List SettledItem) → false ≡ goes_past parts (settled_fact stream items)
settled_stays parts stream [] = refl
settled_stays parts stream (i ∷ items) = sym (ap (list_any is_past) (none_made parts (Settled stream (i ∷ items)) (λ s. refl)))

-- the fact fits, the answer hands out what is owed, and what counts as acknowledged was taken
pub record IsSettlement (sum : Sum) (call : Call) (a : Answer) (change : Option Fact) : Type 0 where
  pub fits : IfSome change (Fits sum)
  pub hands : All (IsOwedAfter sum change) (handed_by a)
  pub acked : CountsAcked sum call change

pub settled_lawful : (rules : Rules) (sum : Sum) (call : Call) (now : ℕ) (a : Answer) (stream : List ℕ) (items : List SettledItem)
    → (IsWhole sum → IsSettlement sum call a (settled_fact stream items)) → IsLawful rules sum call now (with_change a (settled_fact stream items))
settled_lawful rules sum call now a stream items each = record {
  exact = settled_stays sum.parts stream items;
  regular = λ whole.
      let is : IsSettlement sum call a (settled_fact stream items) = each whole in
      record { fits = λ proper low. is.fits; ours = λ proper early. settled_ours rules.issuer stream items; hands = is.hands; acked = is.acked };
}
