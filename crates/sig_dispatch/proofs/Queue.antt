-- Which streams wait in a queue, after one was put into it or taken off.
use Rattle.std.proofs.Common.{◌≡◌, ◌⊎◌, inl, inr, ◌||◌, sym, refl, ℕ, List, [], ◌∷◌, Bool, true, false, bytes_eq, arith}
use Rattle.std.proofs.lemmas.Slice.Eq.{bytes_eq-Decides}
use Rattle.std.specs.BTreeMap.{insert_entry, is_at}
use Rattle.std.specs.Map.{lookup, remove_entry}
use Rattle.std.specs.Prelude.{Some, None}
use Rattle.std.specs.declared.cmp.Ordering.{Ordering}
use Rattle.std.specs.declared.cmp.Ordering.TheVariants.{Less, Equal, Greater}
use Rattle.sig_dispatch.specs.declared.place.Place.{Place}
use Rattle.sig_dispatch.specs.Plan.{waits_in}

Queue : Type 0
Queue = List (Place × List ℕ)

or_left : (a b : Bool) → a ≡ true → a || b ≡ true
or_left a b h = rw h refl

or_right : (a b : Bool) → b ≡ true → a || b ≡ true
or_right true b h = refl
or_right false b h = h

or_parts : (a b : Bool) → a || b ≡ true → (a ≡ true) ⊎ (b ≡ true)
or_parts true b h = inl refl
or_parts false b h = inr h

same_name : (name : List ℕ) → bytes_eq name name ≡ true
same_name name = (bytes_eq-Decides name name).1 refl

-- what stands at a place waits
pub found_waits : (test : Place → Bool) (queue : List (Place × List ℕ)) (name : List ℕ) → lookup test queue ≡ Some name → waits_in queue name ≡ true
found_waits test [] name found = cc
found_waits test (e ∷ es) name found = by (test e.0) refl (found_waits test es name)
  where
    by : (b : Bool) → test e.0 ≡ b → (lookup test es ≡ Some name → waits_in es name ≡ true) → waits_in (e ∷ es) name ≡ true
    by true is rest =
        let same : e.1 ≡ name = grind (arith, found, is) in
        or_left _ _ ((bytes_eq-Decides name e.1).1 (sym same))
    by false is rest = or_right _ _ (rest (grind (arith, found, is)))

-- what is put waits
pub put_waits : (cmp : Place → Place → Ordering) (queue : List (Place × List ℕ)) (place : Place) (name : List ℕ) → waits_in (insert_entry cmp queue place name) name ≡ true
put_waits cmp [] place name = or_left _ _ (same_name name)
put_waits cmp (e ∷ es) place name = by (cmp place e.0) refl (put_waits cmp es place name)
  where
    by : (o : Ordering) → cmp place e.0 ≡ o → waits_in (insert_entry cmp es place name) name ≡ true → waits_in (insert_entry cmp (e ∷ es) place name) name ≡ true
    by Less is rest = rw is (or_left _ _ (same_name name))
    by Equal is rest = rw is (or_left _ _ (same_name name))
    by Greater is rest = rw is (or_right _ _ rest)

-- what waited waits, where nothing stood at the place of what is put
pub still_waits : (cmp : Place → Place → Ordering) (queue : List (Place × List ℕ)) (place : Place) (name other : List ℕ)
    → lookup (is_at (cmp place)) queue ≡ None → waits_in queue other ≡ true → waits_in (insert_entry cmp queue place name) other ≡ true
still_waits cmp [] place name other free before = cc
still_waits cmp (e ∷ es) place name other free before = by (cmp place e.0) refl (still_waits cmp es place name other) (or_parts _ _ before)
  where
    by : (o : Ordering) → cmp place e.0 ≡ o
        → (lookup (is_at (cmp place)) es ≡ None → waits_in es other ≡ true → waits_in (insert_entry cmp es place name) other ≡ true)
        → (bytes_eq other e.1 ≡ true) ⊎ (waits_in es other ≡ true) → waits_in (insert_entry cmp (e ∷ es) place name) other ≡ true
    by Less is rest parts = rw is (or_right _ _ before)
    by Equal is rest parts =
        let clash : Some e.1 ≡ None = grind (arith, is, free) in
        cc
    by Greater is rest (inl first) = rw is (or_left _ _ first)
    by Greater is rest (inr later) = rw is (or_right _ _ (rest (grind (arith, free, is)) later))

-- what is taken off is the only one that waits no more
pub others_wait : (test : Place → Bool) (queue : List (Place × List ℕ)) (name other : List ℕ)
    → lookup test queue ≡ Some name → bytes_eq name other ≡ false → waits_in queue other ≡ true → waits_in (remove_entry test queue) other ≡ true
others_wait test [] name other found apart before = cc
others_wait test (e ∷ es) name other found apart before = by (test e.0) refl (λ at. others_wait test es name other at apart) (or_parts _ _ before)
  where
    by : (b : Bool) → test e.0 ≡ b → (lookup test es ≡ Some name → waits_in es other ≡ true → waits_in (remove_entry test es) other ≡ true)
        → (bytes_eq other e.1 ≡ true) ⊎ (waits_in es other ≡ true) → waits_in (remove_entry test (e ∷ es)) other ≡ true
    by true is rest (inl first) =
        let same : name ≡ other = grind (arith, found, is, (bytes_eq-Decides other e.1).0 first) in
        let equal : bytes_eq name other ≡ true = (bytes_eq-Decides name other).1 same in
        cc
    by true is rest (inr later) = rw is later
    by false is rest (inl first) = rw is (or_left _ _ first)
    by false is rest (inr later) = rw is (or_right _ _ (rest (grind (arith, found, is)) later))

-- the first is taken off: the only one that waits no more
pub later_wait : (place : Place) (name : List ℕ) (rest : List (Place × List ℕ)) (other : List ℕ)
    → bytes_eq name other ≡ false → waits_in ((place, name) ∷ rest) other ≡ true → waits_in rest other ≡ true
later_wait place name rest other apart before = by (or_parts _ _ before)
  where
    by : (bytes_eq other name ≡ true) ⊎ (waits_in rest other ≡ true) → waits_in rest other ≡ true
    by (inl first) =
        let equal : bytes_eq name other ≡ true = (bytes_eq-Decides name other).1 (sym ((bytes_eq-Decides other name).0 first)) in
        cc
    by (inr later) = later
