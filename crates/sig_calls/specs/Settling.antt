-- What settles tokens: the answer to one that was brought to its receiver (RFC 8935, section 2).
use Rattle.std.specs.Prelude.{ℕ, List, [], ◌∷◌, ◌||◌, Bool, Option, Some, None, codes, bytes_eq, length, if◌then◌else◌}
use Rattle.std.specs.Option.{option_to_list}
use Rattle.sig_terms.specs.declared.call.Outcome.{Outcome}
use Rattle.sig_terms.specs.declared.call.Outcome.TheVariants.{Accepted, Reported, Keep}
use Rattle.sig_terms.specs.declared.answer.Answer.TheVariants as answer
use Rattle.sig_terms.specs.declared.fact.Fact.{Fact}
use Rattle.sig_terms.specs.declared.fact.Fact.TheVariants as fact
use Rattle.sig_terms.specs.declared.fact.SettledItem.{SettledItem}
use Rattle.sig_history.specs.Owed.{Sum, owed_by}
use Rattle.sig_history.specs.Sound.{has_number}
use Rattle.sig_calls.specs.Told.{Told, with_change}

-- the codes that settle nothing, since they are about the bearer and not about the token (own)
abbrev pub keeps : List ℕ → Bool
keeps code = bytes_eq code (codes "authentication_failed") || bytes_eq code (codes "access_denied")

-- a list of items as a fact, where there is one
abbrev pub settled_fact : List ℕ → List SettledItem → Option Fact
settled_fact stream [] = None
settled_fact stream (i ∷ items) = Some (fact.Settled stream (i ∷ items))

-- the code of an answer that settles, or none where it settles nothing
abbrev pub outcome_item : ℕ → Outcome → Option SettledItem
outcome_item number Accepted = Some (record { number = number; code = None })
outcome_item number (Reported code) = Some (record { number = number; code = Some code })
outcome_item number Keep = None

-- the item that settles one token, where it is owed
abbrev pub settled_one : Sum → List ℕ → ℕ → Outcome → List SettledItem
settled_one sum stream number outcome =
    if has_number number (owed_by sum stream) then option_to_list (outcome_item number outcome) else []

-- what the answer to a token is told
abbrev pub settling : Sum → List ℕ → ℕ → Outcome → Told
settling sum stream number outcome =
    with_change (answer.Settled (length (settled_one sum stream number outcome))) (settled_fact stream (settled_one sum stream number outcome))
