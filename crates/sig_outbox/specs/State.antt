-- The state of a transmitter as contracts see it.
use Rattle.std.specs.Prelude.{Bool, true, false, Option, None, Some, Result, Ok, Err, ⊤}
use Rattle.sig_history.specs.Owed.{Sum}
use Rattle.sig_history.specs.Sound.{Fits}
use Rattle.sig_ledger.specs.Room.{HasRoom, Ready, Rooms}
use Rattle.sig_outbox.specs.declared.applying.ApplyFault.{ApplyFault}
use Rattle.sig_outbox.specs.declared.applying.ApplyFault.TheVariants.{Bad}

-- what the history came to, and for what there is room
pub record State : Type 0 where
  pub sum : Sum
  pub room : Rooms

-- a fact that fits, and for which there is room
abbrev pub IsReady : State → Option Ready → Type 0
IsReady s None = Unit {0}
IsReady s (Some r) = Fits s.sum r.fact × HasRoom s.sum s.room r

-- a fact is taken in where it fits
abbrev pub taken_where : Bool → Result ⊤ ApplyFault
taken_where true = Ok tt
taken_where false = Err Bad
