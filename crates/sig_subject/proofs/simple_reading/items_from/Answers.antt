use Rattle.std.proofs.Common.{map, subst}
use Rattle.std.proofs.lemmas.Result.{err_from_is_err_and}
use Rattle.serde_json.specs.View.{view}
use Rattle.sig_subject.proofs.Deciding.{Reads, items_from_index, reads_next, reads_refused}
use Rattle.sig_subject.specs.Reading.{item_by, item_checks}
use Rattle.sig_subject.proofs.simple_reading.items_from.Goals as goal

pub returns-in_err-plain : goal.returns-in_err-plain
returns-in_err-plain c =
    let p = err_from_is_err_and c.from_residual.result c.from_residual.ensures.1 in
    let left = subst (λ xs. Reads item_checks item_by (map view c.args.list.now) xs c.loop-value.out.items) (items_from_index c.args.list.now c.loop-value.value-index c.value-item.result c.loop-value-test.true c.value-item.is) c.loop-value.invariant in
    rw (p.1, p.2) (reads_refused _ _ item_checks item_by _ _ _ _ _ left c.in_err-plain.ensures)

pub loop-value-preserved : goal.loop-value-preserved
loop-value-preserved c =
    let left = subst (λ xs. Reads item_checks item_by (map view c.args.list.now) xs c.loop-value.out.items) (items_from_index c.args.list.now c.loop-value.value-index c.value-item.result c.loop-value-test.true c.value-item.is) c.loop-value.invariant in
    rw c.in_ok-push.ensures.items (reads_next item_checks item_by _ _ _ _ _ left c.in_ok-plain.ensures)
