use Rattle.std.proofs.Common.{◌≡◌, map, take}
use Rattle.serde_json.specs.View.{view}
use Rattle.sig_txroutes.specs.Documents.{told_data}
use Rattle.sig_txroutes.proofs.told_stream.told_streams.Given as goal

abbrev pub invariant-loop-stream : goal.invariant-loop-stream
invariant-loop-stream l = map view l.values.items ≡ map told_data (take l.stream-index l.streams)
