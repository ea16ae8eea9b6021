use Rattle.std.proofs.Common.{◌-◌, ◌+◌, ap, sym, ◌∙◌, arith}
use Rattle.std.specs.Prelude.{Ok}
use Rattle.std.proofs.lemmas.Result.{err_from_is_err_and}
use Rattle.sig_fields.proofs.ItemLemmas.{items_begin, items_end, items_step, refused}
use Rattle.sig_base.proofs.lists.take_items.Goals as goal

pub loop-init : goal.loop-init
loop-init g c = rw c.new-items.ensures.items (items_begin g.F.Field.read c.args.count (c.args.count - 0) c.args.bytes.now (omega arith))

pub loop-preserved : goal.loop-preserved
loop-preserved g c =
    rw c.in_ok-push.ensures.items
    (c.loop.invariant ∙ items_step g.F.Field.read _ (c.args.count - c.loop.counter) (c.args.count - (c.loop.counter + 1)) _ _ _ (omega (arith, c.loop-test.true)) c.in_ok-item.ensures)

pub returns-in_err-item : goal.returns-in_err-item
returns-in_err-item g c =
    let p = err_from_is_err_and c.from_residual.result c.from_residual.ensures.1 in
    rw (p.1, p.2)
    (refused g.F.Field.read _ (c.args.count - c.loop.counter) (c.args.count - (c.loop.counter + 1)) _ _ c.in_err-item.field-0.0 _ (omega (arith, c.loop-test.true)) c.loop.invariant c.in_err-item.ensures)

pub returns : goal.returns
returns g c =
    c.loop.invariant ∙ items_end g.F.Field.read _ (c.args.count - c.loop.counter) _ (omega (arith, c.loop-test.false)) ∙ ap (λ xs. Ok (xs, c.loop.bytes)) (sym c.of.ensures)
