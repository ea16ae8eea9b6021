use Rattle.std.proofs.Common.{◌-◌, ◌+◌, ◌∙◌, arith}
use Rattle.std.proofs.lemmas.Result.{err_from_is_err_and}
use Rattle.sig_rxstate.specs.Parts.{has_subject, row}
use Rattle.sig_rxstate.proofs.ItemLists.{more_begin, more_end, more_refused, more_step}
use Rattle.sig_rxstate.proofs.rows.take_many.Goals as goal

pub loop-init : goal.loop-init
loop-init c = more_begin has_subject row c.args.count (c.args.count - 0) c.new-table.result.rows c.args.bytes.now (omega arith) c.new-table.ensures

pub loop-preserved : goal.loop-preserved
loop-preserved c =
    c.loop.invariant
    ∙ more_step has_subject row (c.args.count - c.loop.counter) (c.args.count - (c.loop.counter + 1)) _ _ _ _ (omega (arith, c.loop-test.true)) c.in_ok-take_one.ensures

pub returns-in_err-take_one : goal.returns-in_err-take_one
returns-in_err-take_one c =
    let p = err_from_is_err_and c.from_residual.result c.from_residual.ensures.1 in
    rw (p.1, p.2)
    (more_refused has_subject row (c.args.count - c.loop.counter) (c.args.count - (c.loop.counter + 1)) _ _ _ c.in_err-take_one.field-0.0 _ (omega (arith, c.loop-test.true)) c.loop.invariant c.in_err-take_one.ensures)

pub returns : goal.returns
returns c = c.loop.invariant ∙ more_end has_subject row (c.args.count - c.loop.counter) _ _ (omega (arith, c.loop-test.false))
