use Rattle.std.proofs.Common.{◌≡◌}
use Rattle.sig_sessions.specs.Candidates as candidates
use Rattle.sig_sessions.proofs.preparing.known_at.Given as goal

abbrev pub invariant-loop-place : goal.invariant-loop-place
invariant-loop-place l = candidates.known_at l.subject l.rows l.place-iterator l.found ≡ candidates.known_at l.subject l.rows l.initial.place-iterator l.initial.found
