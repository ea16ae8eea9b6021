-- The compact text of a canonical value is UTF-8.
use Rattle.std.proofs.Common.{ℕ, pos, negsuc, List, [], ◌∷◌, Bool, true, false, IsUtf8, refl, arith}
use Rattle.std.proofs.lemmas.Str.{IsUtf8-append, IsUtf8-from_ascii}
use Rattle.std.proofs.lemmas.Fmt.{IsAscii-decimal, IsAscii-signed}
use Rattle.json.proofs.Printed.Utf8.{IsUtf8-are_ascii, IsUtf8-quoted, IsUtf8-boolean}
use Rattle.serde_json.specs.Data.{Num, unsigned, negative, float, Data, null, boolean, number, string, array, object, Items, no_items, item, Members, no_members, member}
use Rattle.serde_json.specs.Written.{number_text, comma_if, compact_text, items_text, members_text}
use Rattle.sig_json.specs.Canon.{IsWhole, IsCanonical, AreCanonical, MembersAreCanonical}

number_utf8 : (n : Num) → IsWhole n → IsUtf8 (number_text n)
number_utf8 (unsigned n) h = IsUtf8-from_ascii _ (IsAscii-decimal n h)
number_utf8 (negative (pos n)) h = absurd h
number_utf8 (negative (negsuc n)) h = IsUtf8-from_ascii _ (IsAscii-signed (negsuc n) (omega arith))
number_utf8 (float x) h = absurd h

comma_utf8 : (later : Bool) → IsUtf8 (comma_if later)
comma_utf8 true = IsUtf8-are_ascii _ refl
comma_utf8 false = IsUtf8-are_ascii _ refl

-- a text after one ASCII byte
behind : (x : ℕ) (text : List ℕ) → IsUtf8 (x ∷ []) → IsUtf8 text → IsUtf8 (x ∷ text)
behind x text one h = IsUtf8-append (x ∷ []) text one h

mutual
  pub compact_utf8 : (d : Data) → IsCanonical d → IsUtf8 (compact_text d)
  compact_utf8 null h = IsUtf8-are_ascii _ refl
  compact_utf8 (boolean b) h = IsUtf8-boolean b
  compact_utf8 (number n) h = number_utf8 n h
  compact_utf8 (string s) h = IsUtf8-quoted s h
  compact_utf8 (array ds) h = behind 91 _ (IsUtf8-are_ascii _ refl) (items_utf8 false ds h)
  compact_utf8 (object ms) h = behind 123 _ (IsUtf8-are_ascii _ refl) (members_utf8 false ms h)

  items_utf8 : (later : Bool) (ds : Items) → AreCanonical ds → IsUtf8 (items_text later ds)
  items_utf8 later no_items h = IsUtf8-are_ascii _ refl
  items_utf8 later (item d ds) h = IsUtf8-append _ _ (comma_utf8 later) (IsUtf8-append _ _ (compact_utf8 d h.0) (items_utf8 true ds h.1))

  members_utf8 : (later : Bool) (ms : Members) → MembersAreCanonical ms → IsUtf8 (members_text later ms)
  members_utf8 later no_members h = IsUtf8-are_ascii _ refl
  members_utf8 later (member k d ms) h =
      IsUtf8-append _ _ (comma_utf8 later)
      (IsUtf8-append _ _ (IsUtf8-quoted k h.0) (behind 58 _ (IsUtf8-are_ascii _ refl) (IsUtf8-append _ _ (compact_utf8 d h.1) (members_utf8 true ms h.3))))
