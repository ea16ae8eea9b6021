use Rattle.std.proofs.Common.{◌≡◌, drop}
use Rattle.serde_json.specs.Data.{no_members}
use Rattle.serde_json.specs.View.{members_view}
use Rattle.sig_set.specs.Written.{put_events}
use Rattle.sig_set.proofs.writing.events_value.Given as goal

abbrev pub invariant-loop-event : goal.invariant-loop-event
invariant-loop-event l = put_events l.events no_members ≡ put_events (drop l.event-index l.events) (members_view l.members.entries)
