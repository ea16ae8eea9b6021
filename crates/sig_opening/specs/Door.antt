-- The door of a run: it is opened before the store, and given back after it.
use Rattle.std.specs.Prelude.{◌≡◌, List, Option, Some}
use Rattle.sig_outside.specs.declared.place.Place.{Place}
use Rattle.sig_links.specs.Told.{Begins, Coming, DoorEnd, OpensNext, door_end, with_last}
use Rattle.sig_links.specs.Views.{DoorView}

-- the doors that will be handed out, and those that were given back, where they are told
pub record Doors : Type 0 where
  pub ahead : Option (List (List Coming))
  pub back : Option (List DoorEnd)

abbrev pub doors_of : Option (List (List Coming)) → Option (List DoorEnd) → Doors
doors_of ahead back = record { ahead = ahead; back = back }

-- the next of the doors was opened at this place, and was given back as it was last
pub record HasDoor (place : Place) (old new : Doors) (first last : DoorView) : Type 0 where
  pub place_same : first.place ≡ Some (place.host, place.port)
  pub next : OpensNext old.ahead new.ahead first.coming
  pub begins : Begins old.back first.served
  pub whole : first.faults ≡ 0
  pub gives_back : new.back ≡ with_last old.back (door_end last.place last.coming last.served)
