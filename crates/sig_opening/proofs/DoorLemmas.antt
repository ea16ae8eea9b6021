-- The door of a run, and what was lent and comes back.
use Rattle.std.proofs.Common.{◌≡◌, ◌∙◌, ℕ, zero, suc, ◌+◌, ◌<◌, List, Option, Some, None, sym, subst, arith}
use Rattle.sig_outside.specs.Causes.{Rose}
use Rattle.sig_outside.specs.declared.place.Place.{Place}
use Rattle.sig_links.specs.Told.{Begins, Coming, DoorEnd, Gathers, Lends, OpensNext, TakesBack, door_end, with_last}
use Rattle.sig_links.specs.Views.{DoorView}
use Rattle.sig_opening.specs.Door.{HasDoor, doors_of}

-- what was lent came back
pub came_back : {T : Type 0} (back new : Option (List T)) (out between now : ℕ) (last : Option T) → Lends back out between → TakesBack back new between now last → new ≡ with_last back last
came_back None new out between now last lends takes = takes
came_back (Some list) new out between now last lends takes = taken list new out between now last lends takes
  where
    taken : {T : Type 0} (list : List T) (new : Option (List T)) (out between now : ℕ) (last : Option T) → between ≡ out + 1 → TakesBack (Some list) new between now last → new ≡ with_last (Some list) last
    taken list new out zero now last lends takes = absurd (omega (arith, lends))
    taken list new out (suc between) now last lends takes = takes.0

-- faults of what was lent are the outside's, once it is given back
pub risen_more : (before between now met : ℕ) → between ≡ before → 0 < met → Gathers between now met → Rose before now
risen_more before between now met same some gathers = omega (arith, same, some, gathers.0, gathers.1)

pub doors_same : (a a' : Option (List (List Coming))) (b b' : Option (List DoorEnd)) → a ≡ a' → b ≡ b' → doors_of a b ≡ doors_of a' b'
doors_same a a' b b' p q = λ i. doors_of (p i) (q i)

-- the next of the doors was opened, and was given back by an outside that told of doors as when it had handed it out
pub has_door : (place : Place) (ahead opened kept ahead' : Option (List (List Coming))) (back between later back' : Option (List DoorEnd)) (out lent since now : ℕ) (first last : DoorView)
    → first.place ≡ Some (place.host, place.port) → OpensNext ahead opened first.coming → Begins back first.served → first.faults ≡ 0
    → between ≡ back → Lends back out lent → kept ≡ opened → since ≡ lent → later ≡ between → ahead' ≡ kept
    → TakesBack later back' since now (door_end last.place last.coming last.served)
    → HasDoor place (doors_of ahead back) (doors_of ahead' back') first last
has_door place ahead opened kept ahead' back between later back' out lent since now first last place_same next begins whole back_same lends kept_same since_same later_same ahead_same takes =
    let end = door_end last.place last.coming last.served in
    let told : TakesBack back back' since now end = subst (λ (o : Option (List DoorEnd)). TakesBack o back' since now end) (later_same ∙ back_same) takes in
    record {
      place_same = place_same;
      next = subst (λ (o : Option (List (List Coming))). OpensNext ahead o first.coming) (sym (ahead_same ∙ kept_same)) next;
      begins = begins;
      whole = whole;
      gives_back = came_back back back' out lent now end lends (subst (λ (n : ℕ). TakesBack back back' n now end) since_same told);
    }
