use Rattle.std.proofs.Common.{◌≡◌}
use Rattle.serde_json.specs.View.{members_view}
use Rattle.sig_set.specs.Claims.{events_of}
use Rattle.sig_set.proofs.Collected.{behind}
use Rattle.sig_set.proofs.content.events_from.Given as goal

abbrev pub invariant-loop-uri : goal.invariant-loop-uri
invariant-loop-uri l =
    events_of l.subject (members_view l.members.entries) ≡ behind l.events.items (events_of l.subject (members_view l.uri-iterator))
