-- Lists in settings.
use Rattle.std.specs.Prelude.{ℕ, ◌+◌, ◌&&◌, List, [], ◌∷◌, Bool, true, not, bytes_eq, Option, Some, None, Result, Ok, Err}
use Rattle.std.specs.List.{list_any}
use Rattle.serde_json.specs.Data.{Data, Items, no_items, item}
use Rattle.serde_json.specs.Find.{as_array}
use Rattle.sig_json.specs.Answers.{result_map}
use Rattle.sig_settings.specs.declared.fault.ValueFault.{ValueFault}
use Rattle.sig_settings.specs.declared.path.Step.TheVariants.{Place}
use Rattle.sig_settings.specs.Members.{itself, under}

-- an item before others: the first fault decides
abbrev pub before : {T : Type 0} → Result T ValueFault → Result (List T) ValueFault → Result (List T) ValueFault
before (Err fault) rest = Err fault
before (Ok x) rest = result_map (λ xs. x ∷ xs) rest

-- what the item at a place says
abbrev pub kept_at : {T : Type 0} → (Data → Result T ValueFault) → ℕ → Data → Result T ValueFault
kept_at kind n d = under (Place n) (kind d)

-- what the items from this place on say, where all of them are of the kind
abbrev pub items_kept : {T : Type 0} → (Data → Result T ValueFault) → ℕ → Items → Result (List T) ValueFault
items_kept kind n no_items = Ok []
items_kept kind n (item d ds) = before (kept_at kind n d) (items_kept kind (n + 1) ds)

abbrev pub where_list : {T : Type 0} → (Data → Result T ValueFault) → Option Items → Result (List T) ValueFault
where_list kind None = Err itself
where_list kind (Some items) = items_kept kind 0 items

-- a list whose items are all of a kind; their places count from 0
abbrev pub list_at : {T : Type 0} → (Data → Result T ValueFault) → Data → Result (List T) ValueFault
list_at kind d = where_list kind (as_array d)

-- an item has this text
abbrev pub is_among : {T : Type 0} → (T → List ℕ) → List ℕ → List T → Bool
is_among text t xs = list_any (λ x. bytes_eq (text x) t) xs

-- no two items have one text
abbrev pub each_once : {T : Type 0} → (T → List ℕ) → List T → Bool
each_once text [] = true
each_once text (x ∷ xs) = not (is_among text (text x) xs) && each_once text xs
