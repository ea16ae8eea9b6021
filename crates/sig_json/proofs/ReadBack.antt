-- The compact text of a canonical value spells that value.
use Rattle.std.proofs.Common.{◌≡◌, ℕ, suc, pos, negsuc, List, [], Some, option_map, option_and_then, Less, Greater, nat_cmp, refl, sym, ap, ◌∙◌, arith, append-nil}
use Rattle.std.proofs.lemmas.Cmp.{nat_list_cmp_total}
use Rattle.std.specs.Cmp.Lexicographic.{slice_cmp}
use Rattle.std.specs.Ordering.{ordering_reverse}
use Rattle.json.specs.Json as json
use Rattle.json.specs.Tree as tree
use Rattle.json.specs.Lex.{tokens}
use Rattle.json.proofs.Printed.Decimals.{IsNumber-decimal, IsNumber-signed_decimal}
use Rattle.json.proofs.Printed.Tokens.{tokens-print}
use Rattle.json.proofs.Printed.Trees.{value-json_tokens, ArePrintable-json_tokens}
use Rattle.serde_json.proofs.Numbers.{number_of-decimal, number_of-negative}
use Rattle.serde_json.proofs.Texts.{print-outline}
use Rattle.serde_json.specs.Data.{Num, unsigned, negative, float, Data, null, boolean, number, string, array, object, Items, no_items, item, Members, no_members, member, put, depth, items_depth, members_depth}
use Rattle.serde_json.specs.Read.{max_depth, number_of, of_json, of_items, of_members}
use Rattle.serde_json.specs.Written.{number_text, outline, items_outline, members_outline, compact_text}
use Rattle.sig_json.specs.Canon.{IsWhole, IsBelow, IsCanonical, AreCanonical, MembersAreCanonical, ReadsCanonical}
use Rattle.sig_json.proofs.CanonTexts.{compact_utf8}
use Rattle.sig_json.proofs.JsonLemmas.{json_of-utf8}

-- the members of one list and then those of another
abbrev joined : Members → Members → Members
joined no_members ms = ms
joined (member k d found) ms = member k d (joined found ms)

joined-nil : (ms : Members) → joined ms no_members ≡ ms
joined-nil no_members = refl
joined-nil (member k d ms) = ap (member k d) (joined-nil ms)

-- each name of the list is below k
abbrev IsAbove : List ℕ → Members → Type 0
IsAbove k no_members = Unit {0}
IsAbove k (member l e ms) = (slice_cmp nat_cmp l k ≡ Less) × IsAbove k ms

reversed : (k l : List ℕ) → slice_cmp nat_cmp l k ≡ Less → slice_cmp nat_cmp k l ≡ Greater
reversed k l h = nat_list_cmp_total.antisymm k l ∙ ap ordering_reverse h

-- a name above those that are there goes last
put-last : (k : List ℕ) (d : Data) (found rest : Members) → IsAbove k found → joined (put k d found) rest ≡ joined found (member k d rest)
put-last k d no_members rest h = refl
put-last k d (member l e found) rest h = rw (reversed k l h.0) (ap (member l e) (put-last k d found rest h.1))

-- each name of the first list is below each of the second
abbrev AreBelow : Members → Members → Type 0
AreBelow found no_members = Unit {0}
AreBelow found (member k d ms) = IsAbove k found × AreBelow found ms

IsAbove-put : (q k : List ℕ) (d : Data) (found : Members) → IsAbove q found → slice_cmp nat_cmp k q ≡ Less → IsAbove k found → IsAbove q (put k d found)
IsAbove-put q k d no_members h below last = (below, tt)
IsAbove-put q k d (member l e found) h below last = rw (reversed k l last.0) (h.0, IsAbove-put q k d found h.1 below last.1)

AreBelow-put : (k : List ℕ) (d : Data) (found ms : Members) → AreBelow found ms → IsBelow k ms → IsAbove k found → AreBelow (put k d found) ms
AreBelow-put k d found no_members h below last = tt
AreBelow-put k d found (member q e ms) h below last = (IsAbove-put q k d found h.0 below.0 last, AreBelow-put k d found ms h.1 below.1 last)

AreBelow-nil : (ms : Members) → AreBelow no_members ms
AreBelow-nil no_members = tt
AreBelow-nil (member k d ms) = (tt, AreBelow-nil ms)

number_back : (n : Num) → IsWhole n → number_of (number_text n) ≡ Some n
number_back (unsigned n) h = number_of-decimal n h
number_back (negative (pos n)) h = absurd h
number_back (negative (negsuc n)) h = number_of-negative n h
number_back (float x) h = absurd h

-- the value that its outline stands for
mutual
  value_back : (d : Data) → IsCanonical d → of_json (outline d) ≡ Some d
  value_back null h = refl
  value_back (boolean b) h = refl
  value_back (number n) h = ap (option_map number) (number_back n h)
  value_back (string s) h = refl
  value_back (array ds) h = ap (option_map array) (items_back ds h)
  value_back (object ms) h = ap (option_map object) (members_back ms no_members h (AreBelow-nil ms))

  items_back : (ds : Items) → AreCanonical ds → of_items (items_outline ds) ≡ Some ds
  items_back no_items h = refl
  items_back (item d ds) h = rw (value_back d h.0, items_back ds h.1) refl

  members_back : (ms found : Members) → MembersAreCanonical ms → AreBelow found ms → of_members (members_outline ms) found ≡ Some (joined found ms)
  members_back no_members found h below = ap Some (sym (joined-nil found))
  members_back (member k d ms) found h below =
      rw (value_back d h.1) (members_back ms (put k d found) h.3 (AreBelow-put k d found ms below.1 h.2 below.0) ∙ ap Some (put-last k d found ms below.0))

number_fits : (n : Num) → IsWhole n → tree.HasNumbers (json.number (number_text n))
number_fits (unsigned n) h = IsNumber-decimal n h
number_fits (negative (pos n)) h = absurd h
number_fits (negative (negsuc n)) h = IsNumber-signed_decimal (negsuc n) h
number_fits (float x) h = absurd h

mutual
  numbers_fit : (d : Data) → IsCanonical d → tree.HasNumbers (outline d)
  numbers_fit null h = tt
  numbers_fit (boolean b) h = tt
  numbers_fit (number n) h = number_fits n h
  numbers_fit (string s) h = tt
  numbers_fit (array ds) h = items_fit ds h
  numbers_fit (object ms) h = members_fit ms h

  items_fit : (ds : Items) → AreCanonical ds → tree.ItemsHaveNumbers (items_outline ds)
  items_fit no_items h = tt
  items_fit (item d ds) h = (numbers_fit d h.0, items_fit ds h.1)

  members_fit : (ms : Members) → MembersAreCanonical ms → tree.MembersHaveNumbers (members_outline ms)
  members_fit no_members h = tt
  members_fit (member k d ms) h = (numbers_fit d h.1, members_fit ms h.3)

mutual
  depth-outline : (d : Data) → tree.depth (outline d) ≡ depth d
  depth-outline null = refl
  depth-outline (boolean b) = refl
  depth-outline (number n) = refl
  depth-outline (string s) = refl
  depth-outline (array ds) = ap suc (items_depth-outline ds)
  depth-outline (object ms) = ap suc (members_depth-outline ms)

  items_depth-outline : (ds : Items) → tree.items_depth (items_outline ds) ≡ items_depth ds
  items_depth-outline no_items = refl
  items_depth-outline (item d ds) = rw (depth-outline d, items_depth-outline ds) refl

  members_depth-outline : (ms : Members) → tree.members_depth (members_outline ms) ≡ members_depth ms
  members_depth-outline no_members = refl
  members_depth-outline (member k d ms) = rw (depth-outline d, members_depth-outline ms) refl

pub canon_reads : ReadsCanonical
canon_reads d canonical shallow =
    let j = outline d in
    let same : tokens (compact_text d) ≡ tree.json_tokens j =
    ap tokens (sym (print-outline d)) ∙ tokens-print (tree.json_tokens j) (ArePrintable-json_tokens j (numbers_fit d canonical)) in
    json_of-utf8 _ (compact_utf8 d canonical)
    ∙ ap (λ p. option_and_then of_json (option_and_then (λ q. json.if_last q.0 q.1) p))
    (ap (json.value max_depth) (same ∙ sym (append-nil (tree.json_tokens j))) ∙ value-json_tokens j max_depth [] (omega (arith, depth-outline d)))
    ∙ value_back d canonical
