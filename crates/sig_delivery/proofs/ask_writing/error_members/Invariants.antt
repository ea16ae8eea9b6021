use Rattle.std.proofs.Common.{◌≡◌, length}
use Rattle.serde_json.specs.View.{members_view}
use Rattle.sig_delivery.specs.Asks.{error_members, errors_by_name}
use Rattle.sig_delivery.proofs.PutErrors.{put_errors}
use Rattle.sig_delivery.proofs.ask_writing.error_members.Given as goal

abbrev pub invariant-loop-error : goal.invariant-loop-error
invariant-loop-error l = error_members (errors_by_name l.errors) ≡ put_errors l.left (members_view l.members.entries)

abbrev pub decreases-loop-error : goal.decreases-loop-error
decreases-loop-error l = length l.left
