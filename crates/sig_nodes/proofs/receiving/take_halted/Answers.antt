use Rattle.sig_nodes.proofs.KeptLemmas.{err_same}
use Rattle.sig_nodes.proofs.ReceivingLemmas.{full_at, halted_ok, store_result}
use Rattle.sig_nodes.proofs.receiving.take_halted.Goals as goal

pub returns-in-Ok-clause-taken : goal.returns-in-Ok-clause-taken
returns-in-Ok-clause-taken c = λ rules name texts calls fill at stops.
    halted_ok rules name texts c.args.call.now _ calls fill c.tokens-before.result c.args.node.now c.take.new.self c.answered.new.node c.in-Ok.answer c.answered.result
    at stops c.tokens-before.ensures c.in-Ok.ensures.answered c.in-Ok.ensures.writes c.in-Ok.ensures.refused.causes c.answered.ensures.idle c.answered.ensures.made

pub returns-in-Err-Store-clause-taken : goal.returns-in-Err-Store-clause-taken
returns-in-Err-Store-clause-taken c =
    store_result c.args.call.now _ c.args.node.now c.take.new.self c.in-Err-Store.field-0 c.in-Err-Store.field-0-is c.in-Err-Store.ensures.writes c.in-Err-Store.ensures.refused.causes

pub returns-in-Err : goal.returns-in-Err
returns-in-Err c = record {
  taken = tt;
  full = λ n is rules name texts at.
      full_at rules name texts c.args.call.now c.args.node.now at _ n c.take.new.self _ c.in-Err.ensures.refused.causes (err_same c.in-Err.fault _ is);
}
