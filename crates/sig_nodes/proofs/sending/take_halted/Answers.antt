use Rattle.sig_nodes.proofs.SendingLemmas.{halted_ok, store_result}
use Rattle.sig_nodes.proofs.sending.take_halted.Goals as goal

pub returns-in-Ok-clause-taken : goal.returns-in-Ok-clause-taken
returns-in-Ok-clause-taken c = λ rules name facts calls fill at stops.
    halted_ok rules name facts c.args.call.now c.args.now calls fill c.records-before.result c.args.node.now c.take.new.self c.answered.new.node c.in-Ok.answer c.answered.result
    at stops c.records-before.ensures c.in-Ok.ensures.kept.rules c.in-Ok.ensures.answered c.in-Ok.ensures.lasts c.answered.ensures.idle c.answered.ensures.made

pub returns-in-Err-Store-clause-taken : goal.returns-in-Err-Store-clause-taken
returns-in-Err-Store-clause-taken c =
    store_result c.args.call.now c.args.now _ c.args.node.now c.take.new.self c.in-Err-Store.field-0 c.in-Err-Store.field-0-is c.in-Err-Store.ensures.answered c.in-Err-Store.ensures.lasts c.in-Err-Store.ensures.refused
