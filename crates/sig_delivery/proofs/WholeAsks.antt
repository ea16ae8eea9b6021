-- No fraction stands in what is written of an ask.
use Rattle.std.proofs.Common.{◌≡◌, ℕ, List, [], ◌∷◌, map, Option, Some, None, false, refl}
use Rattle.serde_json.specs.Data.{string}
use Rattle.serde_json.specs.View.{items_of}
use Rattle.serde_json.specs.Written.{has_float, items_have_float, members_have_float}
use Rattle.sig_terms.specs.declared.call.PollAsk.{PollAsk}
use Rattle.sig_terms.specs.declared.call.Reported.{Reported}
use Rattle.sig_delivery.specs.Asks.{ask_data, error_members, errors_by_name}

texts_whole : (texts : List (List ℕ)) → items_have_float (items_of (map (λ t. string t) texts)) ≡ false
texts_whole [] = refl
texts_whole (text ∷ texts) = texts_whole texts

errors_whole : (rs : List Reported) → members_have_float (error_members rs) ≡ false
errors_whole [] = refl
errors_whole (r ∷ rs) = errors_whole rs

parts_whole : (max : Option ℕ) (acks : List (List ℕ)) (errors : List Reported) → has_float (ask_data (record { max = max; acks = acks; errors = errors })) ≡ false
parts_whole None acks errors = rw (texts_whole acks, errors_whole (errors_by_name errors)) refl
parts_whole (Some n) acks errors = rw (texts_whole acks, errors_whole (errors_by_name errors)) refl

pub ask_whole : (ask : PollAsk) → has_float (ask_data ask) ≡ false
ask_whole ask = parts_whole ask.max ask.acks ask.errors
