-- Values as texts spell them: texts in UTF-8, members in byte order, each name once (RFC 8259). A fraction may stand in them.
use Rattle.std.specs.Prelude.{◌≡◌, ◌<◌, ◌^◌, ◌≤◌, ℕ, pos, negsuc, List, Some, false, IsUtf8, ⊤}
use Rattle.serde_json.specs.Data.{Num, unsigned, negative, float, Data, null, boolean, number, string, array, object, Items, no_items, item, Members, no_members, member, depth}
use Rattle.serde_json.specs.Read.{max_depth}
use Rattle.serde_json.specs.Written.{has_float}
use Rattle.sig_json.specs.Canon.{IsBelow, IsCanonical}
use Rattle.sig_json.specs.Json.{json_of, member_of}

-- a fraction, or whole from -2^63 to 2^64 - 1
abbrev pub FitsNum : Num → Type 0
FitsNum (unsigned n) = n < 2 ^ 64
FitsNum (negative (pos n)) = ⊥
FitsNum (negative (negsuc n)) = n < 2 ^ 63
FitsNum (float x) = ⊤

-- its texts are UTF-8, and its members in byte order
abbrev mutual
  pub InOrder : Data → Type 0
  InOrder null = ⊤
  InOrder (boolean b) = ⊤
  InOrder (number n) = FitsNum n
  InOrder (string s) = IsUtf8 s
  InOrder (array ds) = ItemsInOrder ds
  InOrder (object ms) = MembersInOrder ms

  pub ItemsInOrder : Items → Type 0
  ItemsInOrder no_items = ⊤
  ItemsInOrder (item d ds) = InOrder d × ItemsInOrder ds

  pub MembersInOrder : Members → Type 0
  MembersInOrder no_members = ⊤
  MembersInOrder (member k d ms) = IsUtf8 k × InOrder d × IsBelow k ms × MembersInOrder ms

-- the value that a text spells is in order, and nests at most 127 deep
abbrev pub SpellsInOrder : Type 0
SpellsInOrder = (text : List ℕ) (v : Data) → json_of text ≡ Some v → InOrder v × (depth v ≤ max_depth)

-- a member of a value in order is in order, and nests less deep than the value
abbrev pub HasInOrder : Type 0
HasInOrder = (name : List ℕ) (v d : Data) → InOrder v → member_of name v ≡ Some d → InOrder d × (depth d < depth v)

-- a value in order in which no fraction stands is canonical
abbrev pub OrderIsCanonical : Type 0
OrderIsCanonical = (v : Data) → InOrder v → has_float v ≡ false → IsCanonical v
