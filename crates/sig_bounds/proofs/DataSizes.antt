-- What a text spells is no larger than the text, and what is found in it no larger than it.
use Rattle.std.proofs.Common.{◌≡◌, ℕ, ◌+◌, ◌≤◌, Bool, true, false, List, [], ◌∷◌, ◌++◌, length, Option, Some, None, IfSome, option_map, option_and_then, if◌then◌else◌, refl, ap, subst, arith, Ordering, Less, Equal, Greater, nat_cmp}
use Rattle.std.specs.Cmp.Lexicographic.{slice_cmp}
use Rattle.std.specs.Ordering.{match_ordering}
use Rattle.std.specs.Str.{is_utf8}
use Rattle.json.specs.Json as json
use Rattle.json.specs.Lex.{tokens}
use Rattle.json.specs.Token.{Token}
use Rattle.json.specs.Tree.{json_tokens, items_tokens, members_tokens}
use Rattle.json.proofs.Unique.Spelling.{value-json_tokens_back}
use Rattle.serde_json.specs.Data.{Data, null, boolean, number, string, array, object, item, Members, no_members, member, put}
use Rattle.serde_json.specs.Find.{get, get_member}
use Rattle.serde_json.specs.Read.{max_depth, number_of, of_json, of_items, of_members, read}
use Rattle.sig_bounds.specs.Sizes.{TextsAreSmall, data_size, items_size, members_size}
use Rattle.sig_bounds.proofs.TokenSizes.{tokens_size, tokens_size-append, tokens_small}

put_small : (k : List ℕ) (d : Data) (ms : Members) → members_size (put k d ms) ≤ data_size d + members_size ms
put_small k d no_members = omega arith
put_small k d (member l e ms) = by (slice_cmp nat_cmp k l) (put_small k d ms)
  where
    by : (o : Ordering) → members_size (put k d ms) ≤ data_size d + members_size ms
        → members_size (match_ordering o (member k d (member l e ms)) (member l d ms) (member l e (put k d ms))) ≤ data_size d + members_size (member l e ms)
    by Less h = omega arith
    by Equal h = omega arith
    by Greater h = omega arith

mutual
  value_small : (j : json.Json) → IfSome (of_json j) (λ d. data_size d ≤ tokens_size (json_tokens j))
  value_small json.null = omega arith
  value_small (json.boolean b) = omega arith
  value_small (json.number s) = elim (number_of s) as (λ o. IfSome (option_map number o) (λ d. data_size d ≤ 0)) [ None ↦ tt | Some n ↦ omega arith ]
  value_small (json.string s) = omega arith
  value_small (json.array js) =
      elim (of_items js) as (λ o. IfSome o (λ ds. items_size ds ≤ tokens_size (items_tokens js))
      → IfSome (option_map array o) (λ d. data_size d ≤ tokens_size (json_tokens (json.array js)))) [ None ↦ λ h. tt | Some ds ↦ λ h. omega arith ] (items_small js)
  value_small (json.object ms) =
      elim (of_members ms no_members) as (λ o. IfSome o (λ out. members_size out ≤ members_size no_members + tokens_size (members_tokens ms))
      → IfSome (option_map object o) (λ d. data_size d ≤ tokens_size (json_tokens (json.object ms)))) [ None ↦ λ h. tt | Some out ↦ λ h. omega arith ] (members_small ms no_members)

  items_small : (js : json.Items) → IfSome (of_items js) (λ ds. items_size ds ≤ tokens_size (items_tokens js))
  items_small json.no_items = omega arith
  items_small (json.item j js) =
      elim (of_json j) as (λ o. IfSome o (λ d. data_size d ≤ tokens_size (json_tokens j))
      → IfSome (option_and_then (λ d. option_map (item d) (of_items js)) o) (λ ds. items_size ds ≤ tokens_size (items_tokens (json.item j js)))) [
        | None ↦ λ h. tt
        | Some d ↦ λ h. elim (of_items js) as (λ o. IfSome o (λ ds. items_size ds ≤ tokens_size (items_tokens js))
            → IfSome (option_map (item d) o) (λ ds. items_size ds ≤ tokens_size (items_tokens (json.item j js)))) [
              | None ↦ λ k. tt
              | Some ds ↦ λ k. omega (arith, tokens_size-append (json_tokens j) (items_tokens js))
            ] (items_small js)
      ] (value_small j)

  members_small : (ms : json.Members) (found : Members) → IfSome (of_members ms found) (λ out. members_size out ≤ members_size found + tokens_size (members_tokens ms))
  members_small json.no_members found = omega arith
  members_small (json.member k j ms) found =
      elim (of_json j) as (λ o. IfSome o (λ d. data_size d ≤ tokens_size (json_tokens j))
      → IfSome (option_and_then (λ d. of_members ms (put k d found)) o) (λ out. members_size out ≤ members_size found + tokens_size (members_tokens (json.member k j ms)))) [
        | None ↦ λ h. tt
        | Some d ↦ λ h. elim (of_members ms (put k d found)) as (λ o. IfSome o (λ out. members_size out ≤ members_size (put k d found) + tokens_size (members_tokens ms))
            → IfSome o (λ out. members_size out ≤ members_size found + tokens_size (members_tokens (json.member k j ms)))) [
              | None ↦ λ m. tt
              | Some out ↦ λ m. omega (arith, put_small k d found, tokens_size-append (json_tokens j) (members_tokens ms))
            ] (members_small ms (put k d found))
      ] (value_small j)

-- ---- texts

begins_small : (text : List ℕ) (j : json.Json) (rest : List Token) → json.value max_depth (tokens text) ≡ Some (j, rest)
    → tokens_size (json_tokens j) ≤ length text
begins_small text j rest is =
    let cut : tokens_size (tokens text) ≡ tokens_size (json_tokens j ++ rest) = ap tokens_size (value-json_tokens_back max_depth (tokens text) rest j is) in
    omega (arith, tokens_small text, tokens_size-append (json_tokens j) rest)

spelled_small : (n : ℕ) (o : Option (json.Json × List Token)) → ((j : json.Json) (rest : List Token) → o ≡ Some (j, rest) → tokens_size (json_tokens j) ≤ n)
    → IfSome (option_and_then of_json (option_and_then (λ p. json.if_last p.0 p.1) o)) (λ d. data_size d ≤ n)
spelled_small n None each = tt
spelled_small n (Some (j, [])) each =
    elim (of_json j) as (λ o. IfSome o (λ d. data_size d ≤ tokens_size (json_tokens j)) → IfSome o (λ d. data_size d ≤ n)) [
      | None ↦ λ h. tt
      | Some d ↦ λ h. let k = each j [] refl in omega arith
    ] (value_small j)
spelled_small n (Some (j, t ∷ rest)) each = tt

json_small : (text : List ℕ) (b : Bool) → IfSome (if b then read text else None) (λ d. data_size d ≤ length text)
json_small text true = spelled_small (length text) (json.value max_depth (tokens text)) (begins_small text)
json_small text false = tt

pub texts_small : TextsAreSmall
texts_small text d is = subst (λ o. IfSome o (λ e. data_size e ≤ length text)) is (json_small text (is_utf8 text))

-- ---- what is found in a value

member_found : (k : List ℕ) (ms : Members) → IfSome (get_member k ms) (λ e. data_size e ≤ members_size ms)
member_found k no_members = tt
member_found k (member l d ms) =
    elim (get_member k ms) as (λ rest. IfSome rest (λ e. data_size e ≤ members_size ms)
    → IfSome (match_ordering (slice_cmp nat_cmp k l) rest (Some d) rest) (λ e. data_size e ≤ data_size d + members_size ms)) [
      | None ↦ λ h. by_none (slice_cmp nat_cmp k l)
      | Some e ↦ λ h. by_some (slice_cmp nat_cmp k l) e h
    ] (member_found k ms)
  where
    by_none : (o : Ordering) → IfSome (match_ordering o None (Some d) None) (λ e. data_size e ≤ data_size d + members_size ms)
    by_none Less = tt
    by_none Equal = omega arith
    by_none Greater = tt

    by_some : (o : Ordering) (e : Data) → data_size e ≤ members_size ms
        → IfSome (match_ordering o (Some e) (Some d) (Some e)) (λ f. data_size f ≤ data_size d + members_size ms)
    by_some Less e h = omega arith
    by_some Equal e h = omega arith
    by_some Greater e h = omega arith

pub found_small : (k : List ℕ) (d : Data) → IfSome (get k d) (λ e. data_size e ≤ data_size d)
found_small k null = tt
found_small k (boolean b) = tt
found_small k (number n) = tt
found_small k (string s) = tt
found_small k (array ds) = tt
found_small k (object ms) = member_found k ms
