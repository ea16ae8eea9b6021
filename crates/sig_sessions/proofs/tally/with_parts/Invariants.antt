use Rattle.std.proofs.Common.{◌≡◌, drop}
use Rattle.sig_sessions.specs.Candidates.{tally_under}
use Rattle.sig_sessions.specs.Keys.{keys_of_parts}
use Rattle.sig_sessions.proofs.tally.with_parts.Given as goal

abbrev pub invariant-loop-member : goal.invariant-loop-member
invariant-loop-member l = tally_under l.subject l.rows l.places.entries (keys_of_parts (drop l.member-index l.members)) l.all
    ≡ tally_under l.subject l.rows l.places.entries (keys_of_parts l.members) l.fn.tally
