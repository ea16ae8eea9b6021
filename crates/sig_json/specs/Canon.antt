-- Values that canonical texts spell: texts in UTF-8, whole numbers of 64 bits, and members in byte order, each name once (RFC 8259).
use Rattle.std.specs.Prelude.{◌≡◌, ◌<◌, ◌^◌, ◌≤◌, ℕ, pos, negsuc, List, Some, false, IsUtf8, if◌then◌else◌, ⊤}
use Rattle.std.specs.Ordering.{nat_cmp}
use Rattle.std.specs.declared.cmp.Ordering.TheVariants.{Less}
use Rattle.std.specs.Cmp.Lexicographic.{slice_cmp}
use Rattle.serde_json.specs.Data.{Num, unsigned, negative, float, Data, null, boolean, number, string, array, object, Items, no_items, item, Members, no_members, member, depth}
use Rattle.serde_json.specs.Read.{max_depth}
use Rattle.serde_json.specs.Written.{compact_text, has_float}
use Rattle.sig_json.specs.Json.{json_of}

-- from -2^63 to 2^64 - 1
abbrev pub IsWhole : Num → Type 0
IsWhole (unsigned n) = n < 2 ^ 64
IsWhole (negative (pos n)) = ⊥
IsWhole (negative (negsuc n)) = n < 2 ^ 63
IsWhole (float x) = ⊥

-- k is below each name
abbrev pub IsBelow : List ℕ → Members → Type 0
IsBelow k no_members = ⊤
IsBelow k (member l e ms) = (slice_cmp nat_cmp k l ≡ Less) × IsBelow k ms

-- its texts are UTF-8, its numbers whole, and its members in byte order
abbrev mutual
  pub IsCanonical : Data → Type 0
  IsCanonical null = ⊤
  IsCanonical (boolean b) = ⊤
  IsCanonical (number n) = IsWhole n
  IsCanonical (string s) = IsUtf8 s
  IsCanonical (array ds) = AreCanonical ds
  IsCanonical (object ms) = MembersAreCanonical ms

  pub AreCanonical : Items → Type 0
  AreCanonical no_items = ⊤
  AreCanonical (item d ds) = IsCanonical d × AreCanonical ds

  pub MembersAreCanonical : Members → Type 0
  MembersAreCanonical no_members = ⊤
  MembersAreCanonical (member k d ms) = IsUtf8 k × IsCanonical d × IsBelow k ms × MembersAreCanonical ms

-- the value, and null in place of one in which a fraction stands
abbrev pub without_fraction : Data → Data
without_fraction d = if has_float d then null else d

-- the compact text of a canonical value spells that value, and so no other
abbrev pub ReadsCanonical : Type 0
ReadsCanonical = (d : Data) → IsCanonical d → depth d ≤ max_depth → json_of (compact_text d) ≡ Some d

-- what a text spells without a fraction is canonical
abbrev pub SpellsCanonical : Type 0
SpellsCanonical = (text : List ℕ) (d : Data) → json_of text ≡ Some d → has_float d ≡ false → IsCanonical d
