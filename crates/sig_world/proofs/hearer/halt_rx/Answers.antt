use Rattle.std.proofs.Common.{◌∙◌, subst, sym}
use Rattle.sig_journal.specs.Added.{rests_with_it}
use Rattle.sig_nodes.specs.Receiving.{RxAt, RxHalted}
use Rattle.sig_schedules.specs.Replay.{receiver_store}
use Rattle.sig_world.specs.Ends.{RxHaltedIn}
use Rattle.sig_world.proofs.EndsLemmas.{held}
use Rattle.sig_world.proofs.hearer.halt_rx.Goals as goal

pub returns-in-Ok-clause-halted : goal.returns-in-Ok-clause-halted
returns-in-Ok-clause-halted c = λ texts at.
    subst (λ o. RxHaltedIn texts c.args.call.now (rests_with_it c.args.calls c.args.fill) o c.in-Ok.halted) (sym c.put_rx.ensures)
    (subst (λ rules. RxHalted rules receiver_store texts c.args.call.now (rests_with_it c.args.calls c.args.fill) c.in-Ok.again c.in-Ok.halted) c.in_ok-rules.ensures
    (c.in-Ok.ensures.halted receiver_store texts
    (subst (λ rules. RxAt rules receiver_store c.in-Some.node texts) (sym c.in_ok-rules.ensures) (held _ c.args.rx.now c.in-Some.node (sym c.take.ensures.value ∙ c.in-Some.is) at))))
