use Rattle.std.proofs.Common.{◌≡◌, drop}
use Rattle.sig_sessions.specs.Walks.{states_after}
use Rattle.sig_sessions.proofs.effects.states_after.Given as goal

abbrev pub invariant-loop-event : goal.invariant-loop-event
invariant-loop-event l = states_after (drop l.event-index l.events) l.now ≡ states_after l.fn.events l.fn.state
