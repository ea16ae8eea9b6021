-- The answer to a token that was brought to its receiver.
use Rattle.std.proofs.Common.{option_to_list, ◌≡◌, ℕ, List, [], ◌∷◌, length, true, false, ◌&&◌, ◌||◌, ◌==◌, IfSome, bytes_eq, if◌then◌else◌, refl, inl, inr}
use Rattle.std.specs.List.{list_any}
use Rattle.std.proofs.lemmas.Bool.{and_from, and_parts, or_cases}
use Rattle.std.proofs.lemmas.List.Elements.{All-nil}
use Rattle.sig_terms.specs.declared.rules.Rules.{Rules}
use Rattle.sig_terms.specs.declared.answer.Answer.TheVariants as answer
use Rattle.sig_terms.specs.declared.call.Call.TheVariants.{Settle}
use Rattle.sig_terms.specs.declared.call.Outcome.{Outcome}
use Rattle.sig_terms.specs.declared.call.Outcome.TheVariants.{Accepted, Reported, Keep}
use Rattle.sig_terms.specs.declared.fact.SettledItem.{SettledItem}
use Rattle.sig_history.specs.Streams.{Stream, Made, stands}
use Rattle.sig_history.specs.Owed.{Sum, owed_by, owed_in}
use Rattle.sig_history.specs.Sound.{Fits, has_number}
use Rattle.sig_calls.specs.Regular.{IsOwedAfter, is_accepted}
use Rattle.sig_calls.specs.Settling.{outcome_item, settled_fact, settling}
use Rattle.sig_calls.specs.Told.{with_change}
use Rattle.sig_calls.proofs.SettledLemmas.{AreOf, is_clear, settled_acked, settled_fits, settled_lawful}
use Rattle.sig_calls.proofs.ToldLemmas.{IsLawful}

-- what stands beside no stream is nothing
owed_here : (name : List ℕ) (n : ℕ) (ss : List Stream) (os : List (List Made)) → has_number n (owed_in name ss os) ≡ true → stands name ss ≡ true
owed_here name n [] os h = cc h
owed_here name n (s ∷ ss) [] h = cc h
owed_here name n (s ∷ ss) (o ∷ os) h =
    elim (bytes_eq s.conf.stream name) as (λ b. has_number n (if b then o else owed_in name ss os) ≡ true → (b || stands name ss) ≡ true) [
      | true ↦ λ this. refl
      | false ↦ λ later. owed_here name n ss os later
    ] h

item_of : (sum : Sum) (stream : List ℕ) (number : ℕ) (outcome : Outcome) → has_number number (owed_by sum stream) ≡ true
    → AreOf (owed_by sum stream) (option_to_list (outcome_item number outcome))
item_of sum stream number Accepted owed = record { owed = and_from _ _ owed refl; once = refl }
item_of sum stream number (Reported code) owed = record { owed = and_from _ _ owed refl; once = refl }
item_of sum stream number Keep owed = record { owed = refl; once = refl }

-- an item without a code is of an answer that says it was taken
clear_is_accepted : (number wanted : ℕ) (outcome : Outcome) → list_any (is_clear wanted) (option_to_list (outcome_item number outcome)) ≡ true
    → ((number == wanted) && is_accepted outcome) ≡ true
clear_is_accepted number wanted Accepted h = elim (or_cases ((number == wanted) && true) false h) [ inl this ↦ this | inr none ↦ cc none ]
clear_is_accepted number wanted (Reported code) h = elim (or_cases ((number == wanted) && false) false h) [ inl this ↦ this | inr none ↦ cc none ]
clear_is_accepted number wanted Keep h = cc h

-- a list of items as what the call is told
items_lawful : (rules : Rules) (sum : Sum) (stream : List ℕ) (number : ℕ) (outcome : Outcome) (now : ℕ) (items : List SettledItem)
    → IfSome (settled_fact stream items) (Fits sum)
    → ((wanted : ℕ) → list_any (is_clear wanted) items ≡ true → ((number == wanted) && is_accepted outcome) ≡ true)
    → IsLawful rules sum (Settle stream number outcome) now (with_change (answer.Settled (length items)) (settled_fact stream items))
items_lawful rules sum stream number outcome now items fits clear =
    settled_lawful rules sum (Settle stream number outcome) now (answer.Settled (length items)) stream items (λ whole. record {
      fits = fits;
      hands = All-nil (IsOwedAfter sum (settled_fact stream items));
      acked = settled_acked sum (Settle stream number outcome) stream items (λ m there named counts.
          let both = and_parts (number == m.number) (is_accepted outcome) (clear m.number counts) in
          and_from _ _ (and_from _ _ named both.0) both.1);
    })

pub settling_lawful : (rules : Rules) (sum : Sum) (stream : List ℕ) (number : ℕ) (outcome : Outcome) (now : ℕ)
    → IsLawful rules sum (Settle stream number outcome) now (settling sum stream number outcome)
settling_lawful rules sum stream number outcome now =
    elim (has_number number (owed_by sum stream)) as (λ b. has_number number (owed_by sum stream) ≡ b
    → IsLawful rules sum (Settle stream number outcome) now
    (with_change (answer.Settled (length (if b then option_to_list (outcome_item number outcome) else [])))
    (settled_fact stream (if b then option_to_list (outcome_item number outcome) else [])))) [
      | true ↦ λ owed. items_lawful rules sum stream number outcome now (option_to_list (outcome_item number outcome))
          (settled_fits sum stream (option_to_list (outcome_item number outcome)) (owed_here stream number sum.parts.streams sum.owed owed)
          (item_of sum stream number outcome owed))
          (λ wanted h. clear_is_accepted number wanted outcome h)
      | false ↦ λ absent. items_lawful rules sum stream number outcome now [] tt (λ wanted none. cc none)
    ] refl
