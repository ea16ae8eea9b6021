-- Values in which no fraction stands, and null in place of others.
use Rattle.std.proofs.Common.{◌≡◌, ◌≤◌, ◌||◌, Bool, true, false, if◌then◌else◌, refl, arith}
use Rattle.serde_json.specs.Data.{Num, unsigned, negative, float, Data, null, boolean, number, string, array, object, Items, no_items, item, Members, no_members, member, depth}
use Rattle.serde_json.specs.Written.{has_float, items_have_float, members_have_float}
use Rattle.sig_json.specs.Canon.{IsWhole, IsCanonical, AreCanonical, MembersAreCanonical, without_fraction}

neither : (a b : Bool) → a ≡ false → b ≡ false → a || b ≡ false
neither a b h k = rw (h, k) refl

whole_number : (n : Num) → IsWhole n → has_float (number n) ≡ false
whole_number (unsigned n) h = refl
whole_number (negative z) h = refl
whole_number (float x) h = absurd h

-- no fraction stands in a canonical value
mutual
  pub canonical_whole : (d : Data) → IsCanonical d → has_float d ≡ false
  canonical_whole null h = refl
  canonical_whole (boolean b) h = refl
  canonical_whole (number n) h = whole_number n h
  canonical_whole (string s) h = refl
  canonical_whole (array ds) h = items_whole ds h
  canonical_whole (object ms) h = members_whole ms h

  items_whole : (ds : Items) → AreCanonical ds → items_have_float ds ≡ false
  items_whole no_items h = refl
  items_whole (item d ds) h = neither (has_float d) (items_have_float ds) (canonical_whole d h.0) (items_whole ds h.1)

  members_whole : (ms : Members) → MembersAreCanonical ms → members_have_float ms ≡ false
  members_whole no_members h = refl
  members_whole (member k d ms) h = neither (has_float d) (members_have_float ms) (canonical_whole d h.1) (members_whole ms h.3)

-- so a canonical value stands as it is
pub canonical_kept : (d : Data) → IsCanonical d → without_fraction d ≡ d
canonical_kept d h = rw (canonical_whole d h) refl

-- no fraction stands in what is put in place
pub without_whole : (d : Data) → has_float (without_fraction d) ≡ false
without_whole d = at (has_float d) refl
  where
    at : (b : Bool) → has_float d ≡ b → has_float (if b then null else d) ≡ false
    at true e = refl
    at false e = e

pub without_shallow : (d : Data) → depth (without_fraction d) ≤ depth d
without_shallow d = elim (has_float d) as (λ b. depth (if b then null else d) ≤ depth d) [
  | true ↦ omega arith
  | false ↦ omega arith
]
