use Rattle.std.proofs.Common.{◌≡◌}
use Rattle.sig_sessions.specs.Candidates.{tally_at}
use Rattle.sig_sessions.proofs.tally.with_rows.Given as goal

abbrev pub invariant-loop-place : goal.invariant-loop-place
invariant-loop-place l = tally_at l.subject l.rows l.place-iterator l.all ≡ tally_at l.subject l.rows l.initial.place-iterator l.fn.tally
