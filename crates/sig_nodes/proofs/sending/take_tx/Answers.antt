use Rattle.sig_nodes.proofs.SendingLemmas.{full_result, took_result}
use Rattle.sig_nodes.proofs.sending.take_tx.Goals as goal

pub returns-clause-took : goal.returns-clause-took
returns-clause-took c = took_result c.args.call.now c.args.now c.args.node.now c.take.new.self c.take.result c.take.ensures.kept.rules c.take.ensures.answered c.take.ensures.lasts

pub returns-clause-full : goal.returns-clause-full
returns-clause-full c = full_result c.args.call.now c.args.now c.args.node.now c.take.new.self c.take.result c.take.ensures.answered
