use Rattle.std.proofs.Common.{◌≡◌}
use Rattle.serde_json.specs.View.{members_view}
use Rattle.sig_delivery.specs.Sets.{listed_of}
use Rattle.sig_delivery.proofs.Collected.{behind}
use Rattle.sig_delivery.proofs.sets.all_listed.Given as goal

abbrev pub invariant-loop-jti : goal.invariant-loop-jti
invariant-loop-jti l = listed_of (members_view l.sets.entries) ≡ behind l.tokens.items (listed_of (members_view l.jti-iterator))
