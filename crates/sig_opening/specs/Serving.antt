-- A run, as the outside tells it: its door is opened before the store, and given back after it.
use Rattle.std.specs.Prelude.{◌≡◌, ◌⊎◌, ℕ, List, Bool, false, Option, Some, Result}
use Rattle.sig_journal.specs.declared.fault.LoadFault.{LoadFault}
use Rattle.sig_links.specs.Told.{Coming, DoorEnd}
use Rattle.sig_outside.specs.declared.place.Place.{Place}
use Rattle.sig_links.specs.Views.{DoorView}
use Rattle.sig_opening.specs.Closing.{PutsBack}
use Rattle.sig_opening.specs.Door.{Doors, HasDoor, doors_of}
use Rattle.sig_opening.specs.Ends.{ByEnd, fails_by}
use Rattle.sig_opening.specs.Files.{IfBoth, StandsForState}
use Rattle.sig_opening.specs.Stays.{TellsSame}
use Rattle.sig_opening.specs.Watches.{AreInRow, EndSo, Standing, Tells, standing}
use Rattle.sig_opening.specs.declared.ending.ServeEnd.{ServeEnd}

-- what the outside tells of a store's two files, and of the doors
pub record Around : Type 0 where
  pub a : Option (List ℕ)
  pub b : Option (List ℕ)
  pub doors : Doors

abbrev pub around : {X : Type 0} → (X → List ℕ → Option (List ℕ)) → (X → Option (List (List Coming))) → (X → Option (List DoorEnd)) → List ℕ → List ℕ → X → Around
around held doors back a b outside = record { a = held outside a; b = held outside b; doors = doors_of (doors outside) (back outside) }

-- what it tells of the two files while a door is open, and what that door tells
pub record AtDoor : Type 0 where
  pub a : Option (List ℕ)
  pub b : Option (List ℕ)
  pub door : DoorView

abbrev pub at_door : {X : Type 0} → (X → List ℕ → Option (List ℕ)) → List ℕ → List ℕ → X → DoorView → AtDoor
at_door held a b outside door = record { a = held outside a; b = held outside b; door = door }

abbrev pub with_open : Around → DoorView → AtDoor
with_open now door = record { a = now.a; b = now.b; door = door }

-- ---- where no watch began

-- no door was opened: none was handed out and none came back, and both files are as they were
pub record NoRun (old new : Around) : Type 0 where
  pub files : TellsSame old.a new.a × TellsSame old.b new.b
  pub doors : new.doors ≡ old.doors

-- at an open door no watch began: the door and both files are as they were
pub record StandsIdle (old new : AtDoor) : Type 0 where
  pub files : TellsSame old.a new.a × TellsSame old.b new.b
  pub door : new.door ≡ old.door

-- the next of the doors was opened at this place, no watch began, and it was given back as it was handed out
pub record NoWatch (place : Place) (old new : Around) : Type 0 where
  pub files : TellsSame old.a new.a × TellsSame old.b new.b
  pub first : DoorView
  pub door : HasDoor place old.doors new.doors first first

-- where a file of the store isn't there, the run ends as one that came to no watch, and did no more: this where no door was
-- opened, or this where one was
abbrev pub UnlessThere : Option Bool → Option Bool → ServeEnd → Type 0 → Type 0 → Type 0
UnlessThere a b end none idle = ((a ≡ Some false) ⊎ (b ≡ Some false)) → ByEnd end none idle ⊥

abbrev pub UnlessThereAt : Option Bool → Option Bool → ServeEnd → AtDoor → AtDoor → Type 0
UnlessThereAt a b end old new = UnlessThere a b end ⊥ (StandsIdle old new)

abbrev pub UnlessThereIn : Place → Option Bool → Option Bool → ServeEnd → Around → Around → Type 0
UnlessThereIn place a b end old new = UnlessThere a b end (NoRun old new) (NoWatch place old new)

-- ---- where watches began

-- at an open door the store was opened, and told one state; the watches began with that state and that door, one after the
-- other; and the store was put back with what that state comes to with them all. It is said by what two files mean, what one
-- more change does, what a watch is, what it tells of its end, and what watches come to
pub record Watched {S C W : Type 0} (means : List ℕ → List ℕ → Result S LoadFault) (after : S → C → S) (is : W → Standing S → Standing S → Type 0) (tells : W → Tells) (comes_to : S → List W → S) (end : ServeEnd) (asked : ℕ) (old new : AtDoor) : Type 0 where
  pub before : S
  pub opened : StandsForState means old.a old.b before
  pub files : Bool × Bool
  pub watches : List W
  pub each : AreInRow is watches (standing before files old.door) (standing (comes_to before watches) files new.door)
  pub ends : EndSo tells end asked watches
  pub back : IfBoth new.a new.b (PutsBack means after (fails_by end) (comes_to before watches))

-- the next of the doors was opened at this place, the watches ran there over the store, and the door was given back
pub record Run {S C W : Type 0} (means : List ℕ → List ℕ → Result S LoadFault) (after : S → C → S) (is : W → Standing S → Standing S → Type 0) (tells : W → Tells) (comes_to : S → List W → S) (place : Place) (end : ServeEnd) (asked : ℕ) (old new : Around) : Type 0 where
  pub first : DoorView
  pub last : DoorView
  pub door : HasDoor place old.doors new.doors first last
  pub watched : Watched means after is tells comes_to end asked (with_open old first) (with_open new last)
