-- A part of a watch: what happened in it, the logs that were kept, and what its host was asked.
use Rattle.std.specs.Prelude.{◌≡◌, ◌<◌, ◌≤◌, ◌+◌, ◌++◌, ℕ, List, Bool, true, false, Option, Some, None}
use Rattle.sig_links.specs.Views.{DoorView}
use Rattle.sig_serving.specs.declared.stop.Stop.{Stop}
use Rattle.sig_serving.specs.declared.stop.Stop.TheVariants.{Halted}
use Rattle.sig_watch.specs.Accepting.{StopsBy}
use Rattle.sig_watch.specs.Happening.{Event, Moment, Runs, logs_of}
use Rattle.sig_watch.specs.Sights.{Sight}

-- it passed from one moment to another by such events, and the logs of those that went back were put last
pub record Passes {G : Type 0} (serves : ℕ → G → Sight → Sight → Type 0) (before after : List G) (old new : Moment) : Type 0 where
  pub events : List (Event G)
  pub runs : Runs serves events old new
  pub kept : after ≡ before ++ logs_of events

-- nothing more changed; or, after so many links, no further one was accepted
abbrev pub StopsIf : Option Stop → ℕ → DoorView → DoorView → Type 0
StopsIf None count old new = new ≡ old
StopsIf (Some stop) count old new = StopsBy stop count old new

-- it passed so, and then the watch goes on, or accepts no further link
pub record PassesUntil {G : Type 0} (serves : ℕ → G → Sight → Sight → Type 0) (before after : List G) (stop : Option Stop) (old new : Moment) : Type 0 where
  pub between : DoorView
  pub passes : Passes serves before after old (record new { door = between })
  pub stops : StopsIf stop new.count between new.door

-- the host was asked for each link after so many, up to so many, and let it in
abbrev pub LetsIn : (ℕ → Bool → Type 0) → ℕ → ℕ → Type 0
LetsIn answered before now = (number : ℕ) → before < number → number ≤ now → answered number true

-- where it accepts no further link since the host says so, the host was asked for the next, and did not let it in
abbrev pub HaltsSo : (ℕ → Bool → Type 0) → Stop → ℕ → Type 0
HaltsSo answered stop count = stop ≡ Halted → answered (count + 1) false
