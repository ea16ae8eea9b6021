-- What is seen of a side and of a door, at one moment.
use Rattle.std.specs.Prelude.{ℕ, List, Option}
use Rattle.sig_links.specs.Told.{Coming, LinkPlan, Sent, Served}

-- of a side: the links that its dials will give, the times that it will tell and the links that were given back to it, where it
-- tells them, and its count of faults
pub record SideView : Type 0 where
  pub ahead : Option (List LinkPlan)
  pub times : Option (List ℕ)
  pub sent : Option (List Sent)
  pub faults : ℕ

-- of a door: the links that are coming and those that were served, where it tells them, how many are out, where it listens, and
-- its count of faults
pub record DoorView : Type 0 where
  pub coming : Option (List Coming)
  pub served : Option (List Served)
  pub out : ℕ
  pub place : Option (List ℕ × ℕ)
  pub faults : ℕ
