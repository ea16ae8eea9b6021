use Rattle.sig_tick.proofs.TryLemmas.{attempted_handed}
use Rattle.sig_tick.proofs.attempting.attempt.Goals as goal

pub returns-in-Ok-clause-attempted : goal.returns-in-Ok-clause-attempted
returns-in-Ok-clause-attempted g c =
    let a = c.in-Ok.ensures.asked in
    attempted_handed c.args.rules.now _ _ _ _ c.args.stream.now _ _ _ _ _ _ _ _ c.attempt_handed.result c.in-Ok.ensures.link c.in-Ok.ensures.now a
    (c.attempt_handed.ensures.attempted c.args.stream.now c.args.log.now.turns.items a.0 a.2.log)
