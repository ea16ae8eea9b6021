-- What the outside tells, and its counts of faults, at a moment.
use Rattle.std.specs.Prelude.{ℕ, List, Bool, Option}
use Rattle.sig_links.specs.Told.{Coming, DoorEnd, SideEnd, SidePlan}
use Rattle.sig_outside.specs.Causes.{Rose}
use Rattle.sig_command.specs.Moment.{OutputState}
use Rattle.sig_init.specs.Files.{Held, file_a, file_b}
use Rattle.sig_opening.specs.Door.{Doors, doors_of}
use Rattle.sig_opening.specs.Serving.{Around}
use Rattle.sig_receive.specs.Sides.{Beside, Sides, sides_of}

pub record OutsideState : Type 0 where
  pub settings : Held
  pub stores : Held
  pub there : List ℕ → Option Bool
  pub doors : Doors
  pub sides : Sides
  pub settings_faults : ℕ
  pub store_faults : ℕ
  pub network_faults : ℕ

abbrev pub outside_state : {X : Type 0} → (X → Held) → (X → Held) → (X → List ℕ → Option Bool) → (X → Option (List (List Coming))) → (X → Option (List DoorEnd)) → (X → Option (List SidePlan)) → (X → Option (List SideEnd))
    → (X → ℕ) → (X → ℕ) → (X → ℕ) → X → OutsideState
outside_state settings stores there doors doors_back sides sides_back settings_faults store_faults network_faults x = record {
  settings = settings x;
  stores = stores x;
  there = there x;
  doors = doors_of (doors x) (doors_back x);
  sides = sides_of (sides x) (sides_back x);
  settings_faults = settings_faults x;
  store_faults = store_faults x;
  network_faults = network_faults x;
}

-- what it tells of the files of a store, and of the doors or of the sides
abbrev pub around_store : List ℕ → OutsideState → Around
around_store store now = record { a = now.stores (file_a store); b = now.stores (file_b store); doors = now.doors }

abbrev pub beside_store : List ℕ → OutsideState → Beside
beside_store store now = record { a = now.stores (file_a store); b = now.stores (file_b store); sides = now.sides }

-- no count of faults rose, and the output took all that it was given
pub record MeetsNoFault (held new_held : OutsideState) (before after : OutputState) : Type 0 where
  pub settings : Rose held.settings_faults new_held.settings_faults → ⊥
  pub stores : Rose held.store_faults new_held.store_faults → ⊥
  pub network : Rose held.network_faults new_held.network_faults → ⊥
  pub output : Rose before.faults after.faults → ⊥
  pub flows : Rose before.stalls after.stalls → ⊥
