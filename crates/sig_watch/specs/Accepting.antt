-- The links that a door gives to a watch, and why it gives no more.
use Rattle.std.specs.Prelude.{◌≡◌, ℕ, ◌<◌}
use Rattle.sig_outside.specs.Causes.{Raised}
use Rattle.sig_links.specs.Told.{AcceptsNext, Begins, IsShut, Lends, LinkPlan}
use Rattle.sig_links.specs.Views.{DoorView}
use Rattle.sig_serving.specs.declared.stop.Stop.{Stop}
use Rattle.sig_serving.specs.declared.stop.Stop.TheVariants.{Spent, Shut, Failed, Halted}
use Rattle.sig_watch.specs.Sights.{Sight}
use Rattle.sig_watch.specs.declared.limits.TheConstants.{LINKS_PER_WATCH}

-- the next link of the door came, with its side: nothing was read, written or sent yet
pub record Gives (old new : DoorView) (came : Sight) : Type 0 where
  pub plan : LinkPlan
  pub next : AcceptsNext old.coming new.coming plan came.line.left came.side.ahead came.side.times
  pub written : Begins old.served came.line.written
  pub sent : Begins old.served came.side.sent
  pub whole : (came.line.reads ≡ 0) × (came.line.writes ≡ 0) × (came.side.faults ≡ 0)
  pub lends : Lends old.served old.out new.out
  pub served : new.served ≡ old.served
  pub place : new.place ≡ old.place
  pub faults : new.faults ≡ old.faults

-- it failed, which it counted, and nothing else changed
pub record FailsOnce (old new : DoorView) : Type 0 where
  pub cause : Raised old.faults new.faults
  pub same : new ≡ record old { faults = new.faults }

-- why no further link was accepted after so many: there were as many as a watch may have; or, before that, the door is shut, or
-- it failed, or the host let no further one in
abbrev pub StopsBy : Stop → ℕ → DoorView → DoorView → Type 0
StopsBy Spent count old new = (count ≡ LINKS_PER_WATCH) × (new ≡ old)
StopsBy Shut count old new = (count < LINKS_PER_WATCH) × IsShut old.coming × (new ≡ old)
StopsBy Failed count old new = (count < LINKS_PER_WATCH) × FailsOnce old new
StopsBy Halted count old new = (count < LINKS_PER_WATCH) × (new ≡ old)
