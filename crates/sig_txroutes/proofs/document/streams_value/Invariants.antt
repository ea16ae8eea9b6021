use Rattle.std.proofs.Common.{◌≡◌, map, take}
use Rattle.serde_json.specs.View.{view}
use Rattle.sig_txroutes.specs.Documents.{standing_data}
use Rattle.sig_txroutes.proofs.document.streams_value.Given as goal

abbrev pub invariant-loop-standing : goal.invariant-loop-standing
invariant-loop-standing l = map view l.values.items ≡ map standing_data (take l.standing-index l.standings)
