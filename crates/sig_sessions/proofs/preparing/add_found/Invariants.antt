use Rattle.std.proofs.Common.{◌≡◌}
use Rattle.sig_sessions.specs.Candidates.{known_at, updates_at}
use Rattle.sig_sessions.proofs.preparing.add_found.Given as goal

abbrev pub invariant-loop-place : goal.invariant-loop-place
invariant-loop-place l = record {
  updates : updates_at l.claims.subject l.claims.events l.rows l.place-iterator l.found.updates.items
      ≡ updates_at l.claims.subject l.claims.events l.rows l.initial.place-iterator l.fn.found.updates.items;
  known : known_at l.claims.subject l.rows l.place-iterator l.found.known ≡ known_at l.claims.subject l.rows l.initial.place-iterator l.fn.found.known;
}
