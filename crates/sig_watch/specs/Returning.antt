-- A link of a watch that goes back to its door.
use Rattle.std.specs.Prelude.{◌≡◌}
use Rattle.sig_links.specs.Told.{TakesBack, served_of}
use Rattle.sig_links.specs.Views.{DoorView}
use Rattle.sig_watch.specs.Sights.{Sight}

-- the door took this link back
pub record IsBack (left : Sight) (old new : DoorView) : Type 0 where
  pub takes : TakesBack old.served new.served old.out new.out (served_of left.line.written left.side.sent)
  pub coming : new.coming ≡ old.coming
  pub place : new.place ≡ old.place
  pub faults : new.faults ≡ old.faults
