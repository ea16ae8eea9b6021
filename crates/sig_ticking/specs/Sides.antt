-- The side of a run: it is taken before the first line, and given back after the last tick.
use Rattle.std.specs.Prelude.{◌≡◌, ℕ, List, Option}
use Rattle.sig_links.specs.Told.{Begins, HandsNext, LendsSide, SideEnd, SidePlan, TakesBack, side_end}
use Rattle.sig_links.specs.Views.{SideView}
use Rattle.sig_command.specs.Moment.{Moment}
use Rattle.sig_opening.specs.Stays.{TellsSame}

-- what the outside tells of a store's two files, of the sides that will be handed out, and of those that were given back
pub record Beside : Type 0 where
  pub a : Option (List ℕ)
  pub b : Option (List ℕ)
  pub ahead : Option (List SidePlan)
  pub back : Option (List SideEnd)

abbrev pub beside : {X : Type 0} → (X → List ℕ → Option (List ℕ)) → (X → Option (List SidePlan)) → (X → Option (List SideEnd)) → List ℕ → List ℕ → X → Beside
beside held ahead back a b outside = record { a = held outside a; b = held outside b; ahead = ahead outside; back = back outside }

-- the next of the sides was taken, and was given back as it was last; so many were out before, then, and after
pub record TakesSide (ahead : Option (List SidePlan)) (back : Option (List SideEnd)) (ahead' : Option (List SidePlan)) (back' : Option (List SideEnd)) (first last : SideView) : Type 0 where
  pub next : HandsNext ahead ahead' first.ahead first.times
  pub begins : Begins back first.sent
  pub whole : first.faults ≡ 0
  pub out : ℕ
  pub lent : ℕ
  pub lends : LendsSide ahead back out lent
  pub after : ℕ
  pub gives_back : TakesBack back back' lent after (side_end last.ahead last.times last.sent)

-- no line was asked for: both files are as they were, no side was handed out, none came back, and neither the input nor the
-- output was used
pub record NoTicks (old new : Beside) (before after : Moment) : Type 0 where
  pub files : TellsSame old.a new.a × TellsSame old.b new.b
  pub ahead : new.ahead ≡ old.ahead
  pub back : new.back ≡ old.back
  pub unused : after ≡ before
