-- A door that failed counted it.
use Rattle.std.proofs.Common.{◌≡◌, ℕ, ◌<◌, List, subst, arith}
use Rattle.sig_links.specs.Views.{DoorView}
use Rattle.sig_serving.specs.declared.stop.Stop.{Stop}
use Rattle.sig_serving.specs.declared.stop.Stop.TheVariants.{Failed}
use Rattle.sig_watch.specs.Accepting.{StopsBy}
use Rattle.sig_watch.specs.Attending.{Attends}
use Rattle.sig_watch.specs.Sights.{Sight}

stops_failed : (count : ℕ) (old new : DoorView) → StopsBy Failed count old new → 0 < new.faults
stops_failed count old new h = omega (arith, h.1.cause.1)

pub door_failed : {G : Type 0} (serves : ℕ → G → Sight → Sight → Type 0) (stop : Stop) (logs : List G) (old new : DoorView) → stop ≡ Failed → Attends serves stop logs old new → 0 < new.faults
door_failed serves stop logs old new is h =
    let faulty : 0 < h.between.faults = stops_failed h.last.count h.last.door h.between (subst (λ (s : Stop). StopsBy s h.last.count h.last.door h.between) is h.stops) in
    omega (arith, faulty, h.back.faults)
