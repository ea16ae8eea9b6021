use Rattle.std.proofs.Common.{◌≡◌, drop}
use Rattle.std.specs.Prelude.{option_copied}
use Rattle.sig_json.specs.Checks.{or_else}
use Rattle.sig_sessions.specs.Walks.{last_told}
use Rattle.sig_sessions.proofs.effects.last_told.Given as goal

abbrev pub invariant-loop-event : goal.invariant-loop-event
invariant-loop-event l = or_else (last_told (drop l.event-index l.events)) (option_copied l.level) ≡ last_told l.events
