-- An object whose members stand in byte order is known by its look-ups.
use Rattle.std.proofs.Common.{◌≡◌, ℕ, List, Some, None, Ordering, Less, Equal, Greater, nat_cmp, refl, sym, ap, subst, ◌∙◌}
use Rattle.std.specs.Prelude.{⊤}
use Rattle.std.proofs.lemmas.Cmp.{nat_list_cmp_total, tied_itself}
use Rattle.std.proofs.lemmas.Map.Lookups.{exact_bytes}
use Rattle.std.specs.Cmp.Lexicographic.{slice_cmp}
use Rattle.std.specs.Ordering.{match_ordering, ordering_reverse}
use Rattle.serde_json.specs.Data.{Data, Members, no_members, member, put}
use Rattle.serde_json.specs.Find.{get_member}
use Rattle.sig_json.specs.Canon.{IsBelow}

pub below_lower : (k l : List ℕ) (ms : Members) → slice_cmp nat_cmp k l ≡ Less → IsBelow l ms → IsBelow k ms
below_lower k l no_members lower h = tt
below_lower k l (member q e ms) lower h = (nat_list_cmp_total.trans k l q lower h.0, below_lower k l ms lower h.1)

pub below_equal : (k l : List ℕ) (ms : Members) → slice_cmp nat_cmp k l ≡ Equal → IsBelow l ms → IsBelow k ms
below_equal k l no_members same h = tt
below_equal k l (member q e ms) same h = (nat_list_cmp_total.congr k l q same ∙ h.0, below_equal k l ms same h.1)

pub above : (k l : List ℕ) → slice_cmp nat_cmp k l ≡ Greater → slice_cmp nat_cmp l k ≡ Less
above k l h = nat_list_cmp_total.antisymm l k ∙ ap ordering_reverse h

pub below_put : (q k : List ℕ) (d : Data) (ms : Members) → slice_cmp nat_cmp q k ≡ Less → IsBelow q ms → IsBelow q (put k d ms)
below_put q k d no_members lower h = (lower, tt)
below_put q k d (member l e ms) lower h = at (slice_cmp nat_cmp k l) (below_put q k d ms lower h.1)
  where
    at : (o : Ordering) → IsBelow q (put k d ms) → IsBelow q (match_ordering o (member k d (member l e ms)) (member l d ms) (member l e (put k d ms)))
    at Less rest = (lower, h)
    at Equal rest = h
    at Greater rest = (h.0, rest)

-- the members stand in byte order of their names, each name once
abbrev pub AreOrdered : Members → Type 0
AreOrdered no_members = ⊤
AreOrdered (member k d ms) = IsBelow k ms × AreOrdered ms

pub ordered_put : (k : List ℕ) (d : Data) (ms : Members) → AreOrdered ms → AreOrdered (put k d ms)
ordered_put k d no_members h = (tt, tt)
ordered_put k d (member l e ms) h = at (slice_cmp nat_cmp k l) refl (ordered_put k d ms h.1)
  where
    at : (o : Ordering) → slice_cmp nat_cmp k l ≡ o → AreOrdered (put k d ms) → AreOrdered (match_ordering o (member k d (member l e ms)) (member l d ms) (member l e (put k d ms)))
    at Less is rest = ((is, below_lower k l ms is h.0), h)
    at Equal is rest = h
    at Greater is rest = (below_put l k d ms (above k l is) h.0, rest)

pub get_here : (k : List ℕ) (d : Data) (ms : Members) → get_member k (member k d ms) ≡ Some d
get_here k d ms = rw (tied_itself nat_list_cmp_total k) refl

-- a name below all others isn't among them
pub get_below : (k : List ℕ) (ms : Members) → IsBelow k ms → get_member k ms ≡ None
get_below k no_members h = refl
get_below k (member l e ms) h = rw h.0 (get_below k ms h.1)

none_is_some : {P : Type 0} {d : Data} → None ≡ Some d → P
none_is_some h = cc

tail_at : (q k : List ℕ) (d e : Data) (ms ns : Members) (o : Ordering) → slice_cmp nat_cmp q k ≡ o → IsBelow k ms → IsBelow k ns → get_member q (member k d ms) ≡ get_member q (member k e ns)
    → get_member q ms ≡ get_member q ns
tail_at q k d e ms ns Less is h j same = rw is at same
tail_at q k d e ms ns Equal is h j same =
    get_below q ms (below_equal q k ms is h) ∙ sym (get_below q ns (below_equal q k ns is j))
tail_at q k d e ms ns Greater is h j same = rw is at same

first_value : (k : List ℕ) (d e : Data) (ms ns : Members) → get_member k (member k d ms) ≡ get_member k (member k e ns) → d ≡ e
first_value k d e ms ns same = some_same (sym (get_here k d ms) ∙ same ∙ get_here k e ns)
  where
    some_same : Some d ≡ Some e → d ≡ e
    some_same h = cc

-- two objects with the same look-ups are one
pub same_members : (ms ns : Members) → AreOrdered ms → AreOrdered ns → ((q : List ℕ) → get_member q ms ≡ get_member q ns) → ms ≡ ns
same_members no_members no_members h j same = refl
same_members no_members (member l e ns) h j same = none_is_some (same l ∙ get_here l e ns)
same_members (member k d ms) no_members h j same = none_is_some (sym (same k) ∙ get_here k d ms)
same_members (member k d ms) (member l e ns) h j same = by_order (slice_cmp nat_cmp k l) refl (same_members ms ns h.1 j.1)
  where
    by_order : (o : Ordering) → slice_cmp nat_cmp k l ≡ o → (((q : List ℕ) → get_member q ms ≡ get_member q ns) → ms ≡ ns) → member k d ms ≡ member l e ns
    by_order Less is more = none_is_some (sym (rw is (get_below k ns (below_lower k l ns is j.0))) ∙ sym (same k) ∙ get_here k d ms)
    by_order Greater is more = none_is_some (sym (rw (above k l is) (get_below l ms (below_lower l k ms (above k l is) h.0))) ∙ same l ∙ get_here l e ns)
    by_order Equal is more =
        let name : k ≡ l = exact_bytes k l is in
        let below : IsBelow k ns = subst (λ n. IsBelow n ns) (sym name) j.0 in
        let looked : (q : List ℕ) → get_member q (member k d ms) ≡ get_member q (member k e ns) = λ q. same q ∙ ap (λ n. get_member q (member n e ns)) (sym name) in
        let rest : ms ≡ ns = more (λ q. tail_at q k d e ms ns (slice_cmp nat_cmp q k) refl h.0 below (looked q)) in
        let value : d ≡ e = first_value k d e ms ns (looked k) in
        rw (rest, value, name) refl

pub get_skips : (q k : List ℕ) (d : Data) (ms : Members) → (q ≡ k → ⊥) → get_member q (member k d ms) ≡ get_member q ms
get_skips q k d ms other = by_order (slice_cmp nat_cmp q k) refl
  where
    by_order : (o : Ordering) → slice_cmp nat_cmp q k ≡ o → get_member q (member k d ms) ≡ get_member q ms
    by_order Less is = rw is refl
    by_order Equal is = absurd (other (exact_bytes q k is))
    by_order Greater is = rw is refl

-- what is found after a member is found with it
pub get_later : (q k : List ℕ) (d e : Data) (ms : Members) → IsBelow k ms → get_member q ms ≡ Some e → get_member q (member k d ms) ≡ Some e
get_later q k d e ms below found = by_order (slice_cmp nat_cmp q k) refl
  where
    by_order : (o : Ordering) → slice_cmp nat_cmp q k ≡ o → get_member q (member k d ms) ≡ Some e
    by_order Less is = rw is found
    by_order Equal is = none_is_some (sym (get_below q ms (below_equal q k ms is below)) ∙ found)
    by_order Greater is = rw is found
