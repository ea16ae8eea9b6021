use Rattle.std.proofs.Common.{◌≡◌, map, take}
use Rattle.serde_json.specs.View.{view}
use Rattle.sig_subject.specs.Written.{plain_data}
use Rattle.sig_subject.proofs.writing.plain_values.Given as goal

abbrev pub invariant-loop-identifier : goal.invariant-loop-identifier
invariant-loop-identifier l = map view l.values.items ≡ map plain_data (take l.identifier-index l.identifiers)
