-- How large a JSON value is: the bytes of its strings, and one for each.
use Rattle.std.specs.Prelude.{◌≡◌, ◌≤◌, ℕ, ◌+◌, List, Some, length}
use Rattle.serde_json.specs.Data.{Data, null, boolean, number, string, array, object, Items, no_items, item, Members, no_members, member}
use Rattle.sig_json.specs.Json.{json_of}

abbrev mutual
  pub data_size : Data → ℕ
  data_size null = 0
  data_size (boolean b) = 0
  data_size (number n) = 0
  data_size (string s) = length s + 1
  data_size (array ds) = items_size ds
  data_size (object ms) = members_size ms

  pub items_size : Items → ℕ
  items_size no_items = 0
  items_size (item d ds) = data_size d + items_size ds

  pub members_size : Members → ℕ
  members_size no_members = 0
  members_size (member k d ms) = data_size d + members_size ms

-- what a text spells is no larger than the text
abbrev pub TextsAreSmall : Type 0
TextsAreSmall = (text : List ℕ) (d : Data) → json_of text ≡ Some d → data_size d ≤ length text
