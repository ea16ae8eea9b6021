-- What links, sides and doors in memory hold, and what they tell by it.
use Rattle.std.specs.Prelude.{◌≡◌, ℕ, List, [], ◌∷◌, Bool, true, false, Option, Some}
use Rattle.sig_links.specs.Told.{LinkPlan, Sent}
use Rattle.sig_memory_links.specs.Lent.{Lent, Planned}
use Rattle.sig_outside.specs.declared.place.Place.{Place}

-- of a link: what is left to read, what was written, where it was dialled, and how many reads and writes failed
pub record MemoryLink : Type 0 where
  pub left : List ℕ
  pub written : List ℕ
  pub dialled : Option (List ℕ × ℕ)
  pub plan : Planned
  pub reads : ℕ
  pub writes : ℕ

-- of a side: the links ahead, those that are out or came back, and the times
pub record MemorySide : Type 0 where
  pub ahead : List MemoryLink
  pub lent : Lent MemoryLink
  pub times : List ℕ
  pub plan : Planned
  pub faults : ℕ

-- the host and port of a place
abbrev pub pair_of : Place → List ℕ × ℕ
pair_of place = (place.host, place.port)

-- whether a call is to fail
abbrev pub is_failing : List ℕ → Bool
is_failing [] = false
is_failing (number ∷ more) = true

-- what a link will give
abbrev pub plan_of : MemoryLink → LinkPlan
plan_of link = record { bytes = link.left; fails = is_failing link.plan.numbers }

-- what was sent on a link
abbrev pub sent_on : MemoryLink → Sent
sent_on link = record { place = link.dialled; bytes = link.written }

-- a link as it is handed out: nothing is written to it, and it has met no fault
abbrev pub begun : Option (List ℕ × ℕ) → MemoryLink → MemoryLink
begun dialled link = record link { written = []; dialled = dialled; reads = 0; writes = 0 }

-- a side as it is handed out: nothing is sent by it, and it has met no fault
abbrev pub begun_side : MemorySide → MemorySide
begun_side side = record side { lent = record { back = []; out = 0 }; faults = 0 }

-- this is the first of the links ahead, as one that was dialled at this place, and those are the others
abbrev pub IsNext : Place → MemoryLink → List MemoryLink → List MemoryLink → Type 0
IsNext place link [] new = ⊥
IsNext place link (first ∷ others) new = (link ≡ begun (Some (pair_of place)) first) × (new ≡ others)
