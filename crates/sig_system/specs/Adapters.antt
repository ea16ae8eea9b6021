-- What contracts see of the adapters over TCP: their counts, and where a link was dialled or a door listens.
use Rattle.std.specs.Prelude.{ℕ, List, [], false, Option}
use Rattle.sig_outside.specs.declared.place.Place.{Place}
use Rattle.sig_links.specs.Told.{LinkPlan}
use Rattle.sig_system.specs.declared.outside_fault.OutsideFault.{OutsideFault}
use Rattle.sig_system.specs.declared.outside_fault.OutsideFault.TheVariants.{Store, StoreInUse, Door, PlaceInUse, Memory}

-- of a link: where it was dialled, and how many of its reads and writes failed
pub record LinkCounts : Type 0 where
  pub dialled : Option (List ℕ × ℕ)
  pub reads : ℕ
  pub writes : ℕ

-- of a door: where it listens, and how many accepts failed
pub record DoorCounts : Type 0 where
  pub place : Option (List ℕ × ℕ)
  pub faults : ℕ

-- of the outside: its three counts, and why the last call failed that did
pub record OutsideCounts : Type 0 where
  pub settings : ℕ
  pub stores : ℕ
  pub network : ℕ
  pub last : Option OutsideFault

-- the host and port of a place
abbrev pub pair_of : Place → List ℕ × ℕ
pair_of place = (place.host, place.port)

-- a link that has met no fault
abbrev pub unused : Option (List ℕ × ℕ) → LinkCounts
unused dialled = record { dialled = dialled; reads = 0; writes = 0 }

-- of no link it is told what it will give
abbrev pub untold : LinkPlan
untold = record { bytes = []; fails = false }

-- why a store isn't had, and why a door isn't
abbrev pub IsOfStore : OutsideFault → Type 0
IsOfStore Store = Unit {0}
IsOfStore StoreInUse = Unit {0}
IsOfStore _ = ⊥

abbrev pub IsOfDoor : OutsideFault → Type 0
IsOfDoor Door = Unit {0}
IsOfDoor PlaceInUse = Unit {0}
IsOfDoor Memory = Unit {0}
IsOfDoor _ = ⊥
