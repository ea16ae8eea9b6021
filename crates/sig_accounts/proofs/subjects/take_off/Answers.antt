use Rattle.std.proofs.Common.{◌≡◌, ◌<◌, ◌≤◌, ◌∙◌, ap, sym, ℕ, List, Some, None, length, rules, arith}
use Rattle.std.specs.List.{slice_get}
use Rattle.std.specs.Map.{keys_of, values_of}
use Rattle.std.proofs.Math.ListN.{set}
use Rattle.std.proofs.lemmas.List.{length-map}
use Rattle.std.proofs.lemmas.Option.{same_Some}
use Rattle.sig_subject.specs.declared.subject.Subject.{Subject}
use Rattle.sig_accounts.specs.Listing.{listed_in}
use Rattle.sig_accounts.proofs.ListingLemmas.{inside, inside_too, linked_moved_in, linked_without, listed_moved_in, listed_without, swapped_entry, swapped_map, IsSwappedOut}
use Rattle.sig_accounts.proofs.subjects.take_off.Goals as goal

abbrev second : Subject × ℕ → ℕ
second e = e.1

out_of : (c : goal.Joined-this) → IsSwappedOut c.args.places.now.entries c.swap_remove_index.new.self.entries c.args.index
    × (slice_get (values_of c.args.places.now.entries) c.args.index ≡ Some c.in-Some.place)
out_of c = swapped_entry c.args.places.now.entries c.swap_remove_index.new.self.entries c.args.index c.swap_remove_index.result _ c.in-Some.place
    c.requires.within c.swap_remove_index.ensures.entry c.in-Some.is c.swap_remove_index.ensures.entries

pub bounds-order-place : goal.bounds-order-place
bounds-order-place c =
    let o = out_of c in
    inside (values_of c.args.places.now.entries) (values_of c.swap_remove_index.new.self.entries) c.args.order.now c.args.index c.in-Some.place c.requires.linked
    (swapped_map second c.args.places.now.entries c.swap_remove_index.new.self.entries c.args.index o.0) o.1

pub offset_bounds-order-place : goal.offset_bounds-order-place
offset_bounds-order-place c = let h = bounds-order-place c in search (rules, h)

module _ (c : goal.After-row_known-1) where
  abbrev es : List (Subject × ℕ)
  es = c.args.places.now.entries

  abbrev fs : List (Subject × ℕ)
  fs = c.swap_remove_index.new.self.entries

  moved_out : IsSwappedOut es fs c.args.index × (slice_get (values_of es) c.args.index ≡ Some c.in-Some.place)
  moved_out = swapped_entry es fs c.args.index c.swap_remove_index.result _ c.in-Some.place
      c.requires.within c.swap_remove_index.ensures.entry c.in-Some.is c.swap_remove_index.ensures.entries

  below : c.args.index < length (values_of fs)
  below = omega (arith, c.if-index-len.true, c.len.ensures.len, length-map fs second)

pub bounds-order-moved : goal.bounds-order-moved
bounds-order-moved c =
    inside_too (values_of (es c)) (values_of (fs c)) c.args.order.now c.args.index c.in-Some.place c.requires.linked
    (swapped_map second (es c) (fs c) c.args.index (moved_out c).0) (moved_out c).1 c.index-moved.result.now (below c) c.index-moved.ensures

pub offset_bounds-order-moved : goal.offset_bounds-order-moved
offset_bounds-order-moved c = let h = bounds-order-moved c in search (rules, h)

pub returns-then-index-len-clause-linked : goal.returns-then-index-len-clause-linked
returns-then-index-len-clause-linked c =
    linked_moved_in (values_of (es c)) (values_of (fs c)) c.args.order.now c.args.index c.in-Some.place c.requires.linked
    (swapped_map second (es c) (fs c) c.args.index (moved_out c).0) (moved_out c).1 c.index-moved.result.now (below c) c.index-moved.ensures

pub returns-then-index-len-clause-listed : goal.returns-then-index-len-clause-listed
returns-then-index-len-clause-listed c = λ place is.
    listed_moved_in (es c) (fs c) c.args.order.now c.args.index c.in-Some.place c.requires.linked (moved_out c).0 (moved_out c).1
    c.index-moved.result.now (below c) c.index-moved.ensures
    ∙ ap (λ q. listed_in (keys_of (es c)) (set c.args.order.now q None)) (same_Some c.in-Some.place place (sym (moved_out c).1 ∙ is))

module _ (c : goal.Else-index-len) where
  abbrev all : List (Subject × ℕ)
  all = c.args.places.now.entries

  abbrev left : List (Subject × ℕ)
  left = c.swap_remove_index.new.self.entries

  last_out : IsSwappedOut all left c.args.index × (slice_get (values_of all) c.args.index ≡ Some c.in-Some.place)
  last_out = swapped_entry all left c.args.index c.swap_remove_index.result _ c.in-Some.place
      c.requires.within c.swap_remove_index.ensures.entry c.in-Some.is c.swap_remove_index.ensures.entries

  past : length (values_of left) ≤ c.args.index
  past = omega (arith, c.if-index-len.false, c.len.ensures.len, length-map left second)

pub returns-else-index-len-clause-linked : goal.returns-else-index-len-clause-linked
returns-else-index-len-clause-linked c =
    linked_without (values_of (all c)) (values_of (left c)) c.args.order.now c.args.index c.in-Some.place c.requires.linked
    (swapped_map second (all c) (left c) c.args.index (last_out c).0) (last_out c).1 (past c)

pub returns-else-index-len-clause-listed : goal.returns-else-index-len-clause-listed
returns-else-index-len-clause-listed c = λ place is.
    listed_without (all c) (left c) c.args.order.now c.args.index c.in-Some.place c.requires.linked (last_out c).0 (last_out c).1 (past c)
    ∙ ap (λ q. listed_in (keys_of (all c)) (set c.args.order.now q None)) (same_Some c.in-Some.place place (sym (last_out c).1 ∙ is))
