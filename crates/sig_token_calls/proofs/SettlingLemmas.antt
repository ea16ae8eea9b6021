-- How the answer to a token is taken, by the stream that is found.
use Rattle.std.proofs.Common.{◌≡◌, ◌∙◌, ap, sym, ℕ, ◌==◌, List, [], ◌∷◌, map, length, ◌||◌, Option, None, Some, Ok, if◌then◌else◌, refl}
use Rattle.std.specs.List.{list_any}
use Rattle.std.specs.Option.{option_to_list}
use Rattle.sig_terms.specs.declared.answer.Answer.TheVariants as answer
use Rattle.sig_terms.specs.declared.call.Outcome.{Outcome}
use Rattle.sig_terms.specs.declared.fact.SettledItem.{SettledItem}
use Rattle.sig_history.specs.Streams.{Stream, Publication, Made}
use Rattle.sig_history.specs.Sound.{has_number}
use Rattle.sig_calls.specs.Settling.{outcome_item, settled_fact, settled_one, settling}
use Rattle.sig_calls.specs.Told.{outcome}
use Rattle.sig_accounts.specs.declared.debt.Debt.{Debt}
use Rattle.sig_accounts.specs.Owings.{Owing, made_of, owing_named}
use Rattle.sig_ledger.specs.Books.{Books, sum_in}
use Rattle.sig_ledger.proofs.FoundLemmas.{found_owed, missing_owed}
use Rattle.sig_token_calls.specs.Replies.{items_for}

has_debt : (sid : List ℕ) (published : List Publication) (s : Stream) (number : ℕ) (ds : List Debt)
    → has_number number (map (made_of sid published s) ds) ≡ list_any (λ (d : Debt). d.number == number) ds
has_debt sid published s number [] = refl
has_debt sid published s number (d ∷ ds) = ap (λ b. (d.number == number) || b) (has_debt sid published s number ds)

pub settled_is : (b : Books) (stream : List ℕ) (number : ℕ) (how : Outcome) (found : Option Owing) → owing_named stream b.owings ≡ found
    → settled_one (sum_in b) stream number how ≡ items_for found number how
settled_is b stream number how None is =
    ap (λ (ts : List Made). if has_number number ts then option_to_list (outcome_item number how) else []) (missing_owed b stream is)
settled_is b stream number how (Some o) is =
    ap (λ (ts : List Made). if has_number number ts then option_to_list (outcome_item number how) else []) (found_owed b stream o is)
    ∙ ap (λ t. if t then option_to_list (outcome_item number how) else []) (has_debt b.store_id b.published o.stream number o.owed)

-- these items are answered
pub settled_reply : (b : Books) (stream : List ℕ) (number : ℕ) (how : Outcome) (items : List SettledItem)
    → items ≡ items_for (owing_named stream b.owings) number how
    → outcome (settling (sum_in b) stream number how) ≡ Ok (record { answer = answer.Settled (length items); change = settled_fact stream items })
settled_reply b stream number how items is =
    ap (λ l. Ok (record { answer = answer.Settled (length l); change = settled_fact stream l }))
    (settled_is b stream number how (owing_named stream b.owings) refl ∙ sym is)
