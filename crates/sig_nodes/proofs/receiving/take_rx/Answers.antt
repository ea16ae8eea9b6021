use Rattle.sig_nodes.proofs.ReceivingLemmas.{full_at, took_result}
use Rattle.sig_nodes.proofs.receiving.take_rx.Goals as goal

pub returns-clause-took : goal.returns-clause-took
returns-clause-took c = took_result c.args.call.now _ c.args.node.now c.take.new.self c.take.result c.take.ensures.answered c.take.ensures.writes c.take.ensures.refused.causes

pub returns-clause-full : goal.returns-clause-full
returns-clause-full c = λ n is rules name texts at.
    full_at rules name texts c.args.call.now c.args.node.now at _ n c.take.new.self c.take.result c.take.ensures.refused.causes is
