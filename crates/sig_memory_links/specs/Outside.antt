-- What an outside in memory holds, and what it tells by it.
use Rattle.std.specs.Prelude.{◌≡◌, ℕ, zero, suc, ◌+◌, List, [], ◌∷◌, ◌++◌, Bool, false, ◌||◌, Option, Some, None, is_some, map, option_map}
use Rattle.sig_links.specs.Told.{Coming, DoorEnd, SideEnd, SidePlan}
use Rattle.sig_outside.specs.KeptDisk.{Kept, seen}
use Rattle.sig_memory_links.specs.declared.named.NamedDisk.{NamedDisk}
use Rattle.sig_memory_links.specs.declared.named.NamedSource.{NamedSource}
use Rattle.sig_memory_links.specs.Doors.{MemoryDoor, coming_of, served_on}
use Rattle.sig_memory_links.specs.Lent.{Lent, Planned}
use Rattle.sig_memory_links.specs.Memory.{MemorySide, begun_side, plan_of, sent_on}
use Rattle.sig_memory_links.specs.Named.{but_named, first_named, is_listed}

-- the settings that are there, and how many are out
pub record MemorySettings : Type 0 where
  pub there : List NamedSource
  pub out : ℕ

-- the stores that are there, and the names of those that are out
pub record MemoryStores : Type 0 where
  pub there : List NamedDisk
  pub out : List (List ℕ)

-- what is to be handed out in order, and what is out or came back
pub record Handed (T : Type 0) : Type 0 where
  pub ahead : List T
  pub lent : Lent T

-- of an outside: the four kinds of things that it hands out, its calls that are to fail, and its three counts
pub record MemoryOutside : Type 0 where
  pub settings : MemorySettings
  pub stores : MemoryStores
  pub doors : Handed MemoryDoor
  pub sides : Handed MemorySide
  pub plan : Planned
  pub settings_faults : ℕ
  pub store_faults : ℕ
  pub network_faults : ℕ

-- the first settings with this name
abbrev pub source_of : List ℕ → MemorySettings → Option NamedSource
source_of name settings = first_named (λ (given : NamedSource). given.name) name settings.there

-- without them, as they are out
abbrev pub without_source : List ℕ → MemorySettings → MemorySettings
without_source name settings = record {
  there = but_named (λ (given : NamedSource). given.name) name settings.there;
  out = settings.out + 1;
}

-- what the settings with this name have left
abbrev pub settings_told : MemorySettings → List ℕ → Option (List ℕ)
settings_told settings name = option_map (λ (given : NamedSource). given.source.left) (source_of name settings)

-- the bytes of a store, which are none where it isn't there
abbrev pub bytes_in : Option NamedDisk → List ℕ
bytes_in None = []
bytes_in (Some given) = seen given.disk

-- the first store with this name
abbrev pub disk_of : List ℕ → MemoryStores → Option NamedDisk
disk_of name stores = first_named (λ (given : NamedDisk). given.name) name stores.there

-- the bytes of the store with this name, and whether it is out
abbrev pub store_told : MemoryStores → List ℕ → Option (List ℕ)
store_told stores name = Some (bytes_in (disk_of name stores))

abbrev pub is_out : MemoryStores → List ℕ → Bool
is_out stores name = is_listed name stores.out

-- whether there is a store with this name, in or out
abbrev pub is_there : MemoryStores → List ℕ → Option Bool
is_there stores name = Some (is_some (disk_of name stores) || is_listed name stores.out)

-- without it, as it is out
abbrev pub without_disk : List ℕ → MemoryStores → MemoryStores
without_disk name stores = record {
  there = but_named (λ (given : NamedDisk). given.name) name stores.there;
  out = name ∷ stores.out;
}

-- a disk is the one of this name, or a new one where none has it
abbrev pub IsDiskOf : Option NamedDisk → Kept → Type 0
IsDiskOf None disk = disk ≡ record { first = []; calls = []; failing = []; made = 0; faults = 0; short = false; stop = None }
IsDiskOf (Some given) disk = disk ≡ given.disk

-- this is the first of the doors ahead, as one that is handed out to listen there, and those are the others
abbrev pub IsNextDoor : Option (List ℕ × ℕ) → MemoryDoor → List MemoryDoor → List MemoryDoor → Type 0
IsNextDoor place door [] new = ⊥
IsNextDoor place door (first ∷ others) new =
    (door ≡ record first { place = place; lent = record { back = []; out = 0 }; faults = 0 }) × (new ≡ others)

-- this is the first of the sides ahead, as one that is handed out, and those are the others
abbrev pub IsNextSide : MemorySide → List MemorySide → List MemorySide → Type 0
IsNextSide side [] new = ⊥
IsNextSide side (first ∷ others) new = (side ≡ begun_side first) × (new ≡ others)

-- a side as it will be handed out, a side and a door as they came back
abbrev pub side_plan : MemorySide → SidePlan
side_plan side = record { ahead = map plan_of side.ahead; times = side.times }

abbrev pub side_end_on : MemorySide → SideEnd
side_end_on side = record { ahead = map plan_of side.ahead; times = side.times; sent = map sent_on side.lent.back }

abbrev pub door_end_on : MemoryDoor → DoorEnd
door_end_on door = record { place = door.place; coming = map coming_of door.coming; served = map served_on door.lent.back }

-- with these settings back; with none out they aren't kept
abbrev pub settings_back : NamedSource → List NamedSource → ℕ → MemorySettings
settings_back given there zero = record { there = there; out = 0 }
settings_back given there (suc out) = record { there = there ++ (given ∷ []); out = out }
