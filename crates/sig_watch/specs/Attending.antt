-- A watch of a door: its links came, were served, and went back.
use Rattle.std.specs.Prelude.{◌≡◌, ◌++◌, ℕ, List, [], ◌∷◌, Option, IfSome}
use Rattle.sig_links.specs.Told.{Served, served_of, with_last}
use Rattle.sig_links.specs.Views.{DoorView}
use Rattle.sig_serving.specs.declared.stop.Stop.{Stop}
use Rattle.sig_watch.specs.Accepting.{StopsBy}
use Rattle.sig_watch.specs.Happening.{Event, Moment, Runs, left_of, logs_of, moment}
use Rattle.sig_watch.specs.Sights.{Sight}

-- what a door tells of the links that were given back, with these last, in order
abbrev pub with_all : Option (List Served) → List Sight → Option (List Served)
with_all told [] = told
with_all told (left ∷ rest) = with_all (with_last told (served_of left.line.written left.side.sent)) rest

-- each link went back, in this order, with what was written to it and sent by its side; as many are out as before they came, where
-- it is told
pub record GoBack (left : List Sight) (old between new : DoorView) : Type 0 where
  pub served : new.served ≡ with_all old.served left
  pub out : IfSome new.served (λ list. new.out ≡ old.out)
  pub coming : new.coming ≡ between.coming
  pub place : new.place ≡ old.place
  pub faults : new.faults ≡ between.faults

-- links came, and errands were begun, until the door stopped so, numbered from 1; each was served as the host serves, and went
-- back, before the door stopped or since. Since then none came: there are as many at the end, and none is open
pub record Attends {G : Type 0} (serves : ℕ → G → Sight → Sight → Type 0) (stop : Stop) (logs : List G) (old new : DoorView) : Type 0 where
  pub events : List (Event G)
  pub since : List (Event G)
  pub last : Moment
  pub between : DoorView
  pub runs : Runs serves events (moment old 0 []) last
  pub stops : StopsBy stop last.count last.door between
  pub ends : Runs serves since (moment between last.count last.live) (moment new last.count [])
  pub logs_are : logs ≡ logs_of (events ++ since)
  pub back : GoBack (left_of (events ++ since)) old between new
