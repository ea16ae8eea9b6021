use Rattle.std.proofs.Common.{◌≡◌, drop}
use Rattle.json.specs.Strict.{keys}
use Rattle.json.specs.Value.{members_view}
use Rattle.sig_stray.specs.Strays as spec
use Rattle.sig_stray.proofs.walk.is_named.Given as goal

abbrev pub invariant-loop-member : goal.invariant-loop-member
invariant-loop-member l = spec.is_named l.name (keys (members_view l.members)) ≡ spec.is_named l.name (keys (members_view (drop l.member-index l.members)))
