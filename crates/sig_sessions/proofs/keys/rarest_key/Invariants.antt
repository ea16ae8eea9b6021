use Rattle.sig_sessions.specs.Keys.{IsKeyOfAll}
use Rattle.sig_sessions.proofs.keys.rarest_key.Given as goal

abbrev pub invariant-loop-member : goal.invariant-loop-member
invariant-loop-member l = IsKeyOfAll l.fn.members l.best
