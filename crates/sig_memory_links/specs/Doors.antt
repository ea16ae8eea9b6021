-- What doors in memory hold, and what they tell by it.
use Rattle.std.specs.Prelude.{◌≡◌, ℕ, List, [], ◌∷◌, Option, None, Some, map}
use Rattle.sig_links.specs.Told as told
use Rattle.sig_memory_links.specs.Lent.{Lent, Planned}
use Rattle.sig_memory_links.specs.Memory.{begun, begun_side, plan_of, sent_on}
use Rattle.sig_memory_links.specs.declared.coming.Coming.{Coming}

-- of a door: where it listens, the links that are coming, and those that are out or came back
pub record MemoryDoor : Type 0 where
  pub place : Option (List ℕ × ℕ)
  pub coming : List Coming
  pub lent : Lent Coming
  pub plan : Planned
  pub faults : ℕ

-- a link with its side, as it comes
abbrev pub coming_of : Coming → told.Coming
coming_of pair = record { link = plan_of pair.link; ahead = Some (map plan_of pair.side.ahead); times = Some pair.side.times }

-- a link with its side, as it was served
abbrev pub served_on : Coming → told.Served
served_on pair = record { bytes = pair.link.written; sent = map sent_on pair.side.lent.back }

-- this is the first of the links that are coming, with its side, as they were accepted, and those are the others
abbrev pub IsComing : Coming → List Coming → List Coming → Type 0
IsComing pair [] new = ⊥
IsComing pair (first ∷ others) new = (pair.link ≡ begun None first.link) × (pair.side ≡ begun_side first.side) × (new ≡ others)
