-- What a text spells without a fraction is canonical.
use Rattle.std.proofs.Common.{◌≡◌, IsUtf8, [], ◌∷◌, ℕ, zero, suc, if◌then◌else◌, ◌==◌, slice_index, drop, ◌<◌, ◌≤◌, ◌^◌, ◌&&◌, ◌||◌, pos, negsuc, List, Bool, true, false, nat_lt, nat_le, Option, Some, None, IfSome, option_map, option_and_then, Ordering, Less, Equal, Greater, nat_cmp, refl, ap, subst, arith}
use Rattle.std.proofs.lemmas.Bool.{ltb-true, leb-true}
use Rattle.std.specs.Cmp.Lexicographic.{slice_cmp}
use Rattle.std.specs.Ordering.{match_ordering}
use Rattle.fast_float.specs.Text.{minus, Parts, scan, digits_of, nearest, with_sign}
use Rattle.std.specs.Float.{binary64, float_is_finite}
use Rattle.json.specs.Json as json
use Rattle.json.specs.Lex.{tokens}
use Rattle.json.specs.Token.{Token}
use Rattle.sig_json.specs.Json.{json_of}
use Rattle.sig_json.proofs.OrderedMembers.{AreOrdered, above, below_lower, below_put}
use Rattle.sig_json.proofs.SpelledTexts.{HasTexts, ItemsHaveTexts, MembersHaveTexts, read_has}
use Rattle.std.specs.Str.{is_utf8}
use Rattle.std.proofs.lemmas.Str.{IsUtf8-from_is_utf8}
use Rattle.serde_json.specs.Data.{Num, unsigned, negative, float, Data, null, boolean, number, string, array, object, Items, no_items, item, Members, no_members, member, put, depth, members_depth}
use Rattle.serde_json.specs.Find.{get_member}
use Rattle.serde_json.proofs.Nesting.{depth-read}
use Rattle.serde_json.specs.Read.{max_depth, number_of, number_from, float_of, is_integer, of_json, of_items, of_members, read}
use Rattle.serde_json.specs.Written.{has_float, items_have_float, members_have_float}
use Rattle.sig_json.specs.Canon.{IsWhole, IsCanonical, AreCanonical, MembersAreCanonical, SpellsCanonical}
use Rattle.sig_json.specs.Order.{FitsNum, InOrder, ItemsInOrder, MembersInOrder, SpellsInOrder, HasInOrder, OrderIsCanonical}

-- ---- numbers

pick : (b : Bool) (x y : Option Num) → (b ≡ true → IfSome x FitsNum) → IfSome y FitsNum → IfSome (if b then x else y) FitsNum
pick true x y h k = h refl
pick false x y h k = k

both : (a b : Bool) → a && b ≡ true → (a ≡ true) × (b ≡ true)
both true b h = (refl, h)
both false b h = cc

negative_fits : (n : ℕ) → 0 < n → n ≤ 2 ^ 63 → FitsNum (negative (with_sign true n))
negative_fits zero low high = absurd (omega arith)
negative_fits (suc n) low high = omega arith

float_fits : (sign : Bool) (p : Parts) → IfSome (float_of sign p) FitsNum
float_fits sign p = pick (float_is_finite (nearest binary64 sign p)) (Some (float (nearest binary64 sign p))) None (λ _. tt) tt

from_fits : (sign : Bool) (p : Parts) → IfSome (number_from sign p) FitsNum
from_fits false p =
    pick (is_integer p && nat_lt (digits_of p) (2 ^ 64)) (Some (unsigned (digits_of p))) (float_of false p)
    (λ h. ltb-true (digits_of p) (2 ^ 64) (both (is_integer p) _ h).1) (float_fits false p)
from_fits true p =
    pick (is_integer p && nat_lt 0 (digits_of p) && nat_le (digits_of p) (2 ^ 63)) (Some (negative (with_sign true (digits_of p)))) (float_of true p)
    (λ h.
    let q = both (is_integer p && nat_lt 0 (digits_of p)) (nat_le (digits_of p) (2 ^ 63)) h in
    negative_fits (digits_of p) (ltb-true 0 (digits_of p) (both (is_integer p) _ q.0).1) (leb-true (digits_of p) (2 ^ 63) q.1))
    (float_fits true p)

number_fits : (s : List ℕ) → IfSome (number_of s) FitsNum
unfolding number_of
number_fits s =
    elim (slice_index s 0 == minus) as (λ b. IfSome (if b then number_from true (scan (drop 1 s)) else number_from false (scan s)) FitsNum) [
      | true ↦ from_fits true (scan (drop 1 s))
      | false ↦ from_fits false (scan s)
    ]

-- ---- members

put_in_order : (k : List ℕ) (d : Data) (ms : Members) → IsUtf8 k → InOrder d → MembersInOrder ms → MembersInOrder (put k d ms)
put_in_order k d no_members name one h = (name, one, tt, tt)
put_in_order k d (member l e ms) name one h = at (slice_cmp nat_cmp k l) refl (put_in_order k d ms name one h.3)
  where
    at : (o : Ordering) → slice_cmp nat_cmp k l ≡ o → MembersInOrder (put k d ms) → MembersInOrder (match_ordering o (member k d (member l e ms)) (member l d ms) (member l e (put k d ms)))
    at Less is rest = (name, one, (is, below_lower k l ms is h.2), h)
    at Equal is rest = (h.0, one, h.2, h.3)
    at Greater is rest = (h.0, h.1, below_put l k d ms (above k l is) h.2, rest)

none_is_some : {P : Type 0} {d : Data} → None ≡ Some d → P
none_is_some h = cc

some_same : (d e : Data) → Some d ≡ Some e → d ≡ e
some_same d e h = cc

-- ---- values

mutual
  value_in_order : (j : json.Json) → HasTexts j → IfSome (of_json j) InOrder
  value_in_order json.null t = tt
  value_in_order (json.boolean b) t = tt
  value_in_order (json.number s) t = elim (number_of s) as (λ o. IfSome o FitsNum → IfSome (option_map number o) InOrder) [ None ↦ λ h. tt | Some n ↦ λ h. h ] (number_fits s)
  value_in_order (json.string s) t = t
  value_in_order (json.array js) t = elim (of_items js) as (λ o. IfSome o ItemsInOrder → IfSome (option_map array o) InOrder) [ None ↦ λ h. tt | Some ds ↦ λ h. h ] (items_in_order js t)
  value_in_order (json.object ms) t =
      elim (of_members ms no_members) as (λ o. IfSome o MembersInOrder → IfSome (option_map object o) InOrder) [ None ↦ λ h. tt | Some ds ↦ λ h. h ] (members_in_order ms no_members t tt)

  items_in_order : (js : json.Items) → ItemsHaveTexts js → IfSome (of_items js) ItemsInOrder
  items_in_order json.no_items t = tt
  items_in_order (json.item j js) t =
      elim (of_json j) as (λ o. IfSome o InOrder → IfSome (option_and_then (λ d. option_map (item d) (of_items js)) o) ItemsInOrder) [
        | None ↦ λ h. tt
        | Some d ↦ λ h. elim (of_items js) as (λ o. IfSome o ItemsInOrder → IfSome (option_map (item d) o) ItemsInOrder) [ None ↦ λ k. tt | Some ds ↦ λ k. (h, k) ] (items_in_order js t.1)
      ] (value_in_order j t.0)

  members_in_order : (ms : json.Members) (found : Members) → MembersHaveTexts ms → MembersInOrder found → IfSome (of_members ms found) MembersInOrder
  members_in_order json.no_members found t h = h
  members_in_order (json.member k j ms) found t h =
      elim (of_json j) as (λ o. IfSome o InOrder → IfSome (option_and_then (λ d. of_members ms (put k d found)) o) MembersInOrder) [
        | None ↦ λ one. tt
        | Some d ↦ λ one. members_in_order ms (put k d found) t.2 (put_in_order k d found t.0 one h)
      ] (value_in_order j t.1)

-- ---- with no float

or_parts : (a b : Bool) → a || b ≡ false → (a ≡ false) × (b ≡ false)
or_parts false b h = (refl, h)
or_parts true b h = cc

whole : (n : Num) → FitsNum n → has_float (number n) ≡ false → IsWhole n
whole (unsigned n) h plain = h
whole (negative (pos n)) h plain = h
whole (negative (negsuc n)) h plain = h
whole (float x) h plain = cc

mutual
  pub canonical : (d : Data) → InOrder d → has_float d ≡ false → IsCanonical d
  canonical null h plain = tt
  canonical (boolean b) h plain = tt
  canonical (number n) h plain = whole n h plain
  canonical (string s) h plain = h
  canonical (array ds) h plain = items_canonical ds h plain
  canonical (object ms) h plain = members_canonical ms h plain

  pub items_canonical : (ds : Items) → ItemsInOrder ds → items_have_float ds ≡ false → AreCanonical ds
  items_canonical no_items h plain = tt
  items_canonical (item d ds) h plain = let p = or_parts (has_float d) (items_have_float ds) plain in (canonical d h.0 p.0, items_canonical ds h.1 p.1)

  pub members_canonical : (ms : Members) → MembersInOrder ms → members_have_float ms ≡ false → MembersAreCanonical ms
  members_canonical no_members h plain = tt
  members_canonical (member k d ms) h plain = let p = or_parts (has_float d) (members_have_float ms) plain in (h.0, canonical d h.1 p.0, h.2, members_canonical ms h.3 p.1)

spelled : (o : Option (json.Json × List Token)) → ((j : json.Json) (rest : List Token) → o ≡ Some (j, rest) → HasTexts j) → IfSome (option_and_then of_json (option_and_then (λ p. json.if_last p.0 p.1) o)) InOrder
spelled None t = tt
spelled (Some (j, [])) t = value_in_order j (t j [] refl)
spelled (Some (j, x ∷ rest)) t = tt

pub read_in_order : (text : List ℕ) → IsUtf8 text → IfSome (read text) InOrder
read_in_order text u = spelled (json.value max_depth (tokens text)) (λ j rest e. read_has text max_depth j rest u e)

json_in_order : (text : List ℕ) (b : Bool) → is_utf8 text ≡ b → IfSome (json_of text) InOrder
json_in_order text true e = rw e (read_in_order text (IsUtf8-from_is_utf8 text e))
json_in_order text false e = rw e tt

-- what a text spells is in order
pub spelled_in_order : (text : List ℕ) (d : Data) → json_of text ≡ Some d → InOrder d
spelled_in_order text d is = subst (λ o. IfSome o InOrder) is (json_in_order text (is_utf8 text) refl)

pub spelled_is_canonical : SpellsCanonical
spelled_is_canonical text d is plain = canonical d (spelled_in_order text d is) plain

ordered_members : (ms : Members) → MembersInOrder ms → AreOrdered ms
ordered_members no_members h = tt
ordered_members (member k d ms) h = (h.2, ordered_members ms h.3)

-- the members of an object that a text spells stand in byte order
pub in_order_members : (ms : Members) → InOrder (object ms) → AreOrdered ms
in_order_members ms h = ordered_members ms h

-- what is found in an object that a text spells
pub get_in_order : (k : List ℕ) (ms : Members) (e : Data) → MembersInOrder ms → get_member k ms ≡ Some e → InOrder e
get_in_order k no_members e h found = none_is_some found
get_in_order k (member l d ms) e h found = by_order (slice_cmp nat_cmp k l) refl (get_in_order k ms e h.3)
  where
    by_order : (o : Ordering) → slice_cmp nat_cmp k l ≡ o → (get_member k ms ≡ Some e → InOrder e) → InOrder e
    by_order Less is more = more (rw is at found)
    by_order Equal is more = subst InOrder (some_same d e (rw is at found)) h.1
    by_order Greater is more = more (rw is at found)

pub get_depth : (k : List ℕ) (ms : Members) (e : Data) → get_member k ms ≡ Some e → depth e ≤ members_depth ms
get_depth k no_members e found = none_is_some found
get_depth k (member l d ms) e found = by_order (slice_cmp nat_cmp k l) refl (get_depth k ms e)
  where
    by_order : (o : Ordering) → slice_cmp nat_cmp k l ≡ o → (get_member k ms ≡ Some e → depth e ≤ members_depth ms) → depth e ≤ members_depth (member l d ms)
    by_order Less is more = let h = more (rw is at found) in omega arith
    by_order Equal is more = let h : depth d ≡ depth e = ap depth (some_same d e (rw is at found)) in omega arith
    by_order Greater is more = let h = more (rw is at found) in omega arith

-- what a text spells nests at most 127 deep
pub spelled_depth : (text : List ℕ) (d : Data) → json_of text ≡ Some d → depth d ≤ max_depth
spelled_depth text d is = by_test (is_utf8 text) refl
  where
    by_test : (b : Bool) → is_utf8 text ≡ b → depth d ≤ max_depth
    by_test true e = depth-read text d (rw e at is)
    by_test false e = none_is_some (rw e at is)

pub spells_in_order : SpellsInOrder
spells_in_order text v is = (spelled_in_order text v is, spelled_depth text v is)

pub has_in_order : HasInOrder
has_in_order name null d order is = none_is_some is
has_in_order name (boolean b) d order is = none_is_some is
has_in_order name (number n) d order is = none_is_some is
has_in_order name (string s) d order is = none_is_some is
has_in_order name (array ds) d order is = none_is_some is
has_in_order name (object ms) d order is = (get_in_order name ms d order is, let below = get_depth name ms d is in omega arith)

pub order_is_canonical : OrderIsCanonical
order_is_canonical v order plain = canonical v order plain
