use Rattle.std.proofs.Common.{drop, map}
use Rattle.serde_json.specs.View.{view}
use Rattle.sig_subject.proofs.Deciding.{Reads}
use Rattle.sig_subject.specs.Reading.{item_by, item_checks}
use Rattle.sig_subject.proofs.simple_reading.items_from.Given as goal

abbrev pub invariant-loop-value : goal.invariant-loop-value
invariant-loop-value l = Reads item_checks item_by (map view l.list) (map view (drop l.value-index l.list)) l.out.items
