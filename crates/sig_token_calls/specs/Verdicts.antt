-- What the acknowledgements and refusals of a poll say of a stream's tokens, by number.
use Rattle.std.specs.Prelude.{◌≡◌, ℕ, ◌<◌, ◌^◌, ◌==◌, List, ◌++◌, Bool, false, Option, None, Some, bytes_eq, codes, option_map, if◌then◌else◌}
use Rattle.std.specs.Fmt.{decimal}
use Rattle.std.specs.List.{list_any}
use Rattle.uuid.specs.Text.{hyphenated_text, lower}
use Rattle.sig_terms.specs.declared.call.Reported.{Reported}
use Rattle.sig_terms.specs.declared.fact.SettledItem.{SettledItem}
use Rattle.sig_calls.specs.Polling.{refused_as, refused_item}

-- what stands before the number in the identifiers of a stream's tokens
abbrev pub prefix_of : List ℕ → List ℕ → List ℕ
prefix_of store_id stream = hyphenated_text lower store_id ++ codes "." ++ stream ++ codes "."

-- whether a number, where there is one, is this one
abbrev pub is_number : Option ℕ → ℕ → Bool
is_number None n = false
is_number (Some k) n = k == n

-- what is said of a token: nothing, that it was taken, or that it was refused under a code
abbrev pub verdict : List (List ℕ) → List Reported → List ℕ → Option (Option (List ℕ))
verdict acks errors jti = if list_any (bytes_eq jti) acks then Some None else option_map Some (refused_as jti errors)

-- what is said once a further text is read: the first counts
abbrev pub with_verdict : Option (Option (List ℕ)) → Bool → Option (List ℕ) → Option (Option (List ℕ))
with_verdict (Some first) named code = Some first
with_verdict None named code = if named then Some code else None

-- each number has what is said of the token of that number
abbrev pub AreRead : List ℕ → List (List ℕ) → List Reported → (ℕ → Option (Option (List ℕ))) → Type 0
AreRead prefix acks errors verdicts = (n : ℕ) → n < 2 ^ 64 → verdicts n ≡ verdict acks errors (prefix ++ decimal n)

-- what a verdict settles
abbrev pub item_of : ℕ → Option (Option (List ℕ)) → Option SettledItem
item_of number None = None
item_of number (Some None) = Some (record { number = number; code = None })
item_of number (Some (Some code)) = refused_item number (Some code)
