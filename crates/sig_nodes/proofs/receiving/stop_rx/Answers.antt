use Rattle.std.proofs.Common.{subst}
use Rattle.sig_journal.specs.Added.{rests_with_it}
use Rattle.sig_nodes.specs.Receiving.{RxTaken}
use Rattle.sig_nodes.proofs.KeptLemmas.{err_same, if_ok}
use Rattle.sig_nodes.proofs.ReceivingLemmas.{crashed_at, stopped_at}
use Rattle.sig_nodes.proofs.receiving.stop_rx.Goals as goal

pub returns-in-Ok-Some-clause-halted : goal.returns-in-Ok-Some-clause-halted
returns-in-Ok-Some-clause-halted c = λ name texts at.
    subst (RxTaken c.args.rules name texts c.args.call.now (rests_with_it c.args.calls c.args.fill) c.take_halted.new.node) c.in-Ok-Some.field-0-is
    (c.in-Ok-Some.ensures.taken c.args.rules name texts c.args.calls c.args.fill
    (stopped_at c.args.rules name texts c.args.node c.stop_after.new.self at c.stop_after.ensures.written_stays c.stop_after.ensures.other_stays c.stop_after.ensures.journal
    c.stop_after.ensures.same.2 c.stop_after.ensures.same.0 c.stop_after.ensures.same.1)
    c.stop_after.ensures.written)

pub returns-in-Ok-None-clause-halted : goal.returns-in-Ok-None-clause-halted
returns-in-Ok-None-clause-halted c =
    if_ok c.load_halted.result
    (λ r h name texts at. crashed_at c.args.rules name texts c.args.call.now c.tokens-before.result (rests_with_it c.args.calls c.args.fill) c.args.node c.take_halted.new.node r.0 r.1
    at c.tokens-before.ensures
    (subst (RxTaken c.args.rules name texts c.args.call.now (rests_with_it c.args.calls c.args.fill) c.take_halted.new.node) c.in-Ok-None.field-0-is
    (c.in-Ok-None.ensures.taken c.args.rules name texts c.args.calls c.args.fill
    (stopped_at c.args.rules name texts c.args.node c.stop_after.new.self at c.stop_after.ensures.written_stays c.stop_after.ensures.other_stays c.stop_after.ensures.journal
    c.stop_after.ensures.same.2 c.stop_after.ensures.same.0 c.stop_after.ensures.same.1)
    c.stop_after.ensures.written))
    (λ told. h name told))
    c.load_halted.ensures.crashed

pub returns-in-Err-clause-full : goal.returns-in-Err-clause-full
returns-in-Err-clause-full c = λ n is name texts at.
    c.in-Err.ensures.full n (err_same c.in-Err.fault _ is) c.args.rules name texts
    (stopped_at c.args.rules name texts c.args.node c.stop_after.new.self at c.stop_after.ensures.written_stays c.stop_after.ensures.other_stays c.stop_after.ensures.journal
    c.stop_after.ensures.same.2 c.stop_after.ensures.same.0 c.stop_after.ensures.same.1)
