use Rattle.std.proofs.Common.{◌≡◌}
use Rattle.serde_json.specs.View.{members_view}
use Rattle.sig_delivery.specs.Asks.{errors_of}
use Rattle.sig_delivery.proofs.Collected.{behind}
use Rattle.sig_delivery.proofs.ask.all_errors.Given as goal

abbrev pub invariant-loop-jti : goal.invariant-loop-jti
invariant-loop-jti l = errors_of (members_view l.errors.entries) ≡ behind l.reported.items (errors_of (members_view l.jti-iterator))
