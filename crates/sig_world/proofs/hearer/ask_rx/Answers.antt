use Rattle.sig_schedules.specs.Replay.{receiver_store}
use Rattle.sig_world.specs.Ends.{receiver_rules}
use Rattle.sig_world.proofs.EndsLemmas.{held}
use Rattle.sig_world.proofs.hearer.ask_rx.Goals as goal

pub returns-in-Ok-clause-took : goal.returns-in-Ok-clause-took
returns-in-Ok-clause-took c = λ texts at. c.in-Ok.ensures.took receiver_rules receiver_store texts (held _ c.args.rx.now c.in-Some.node c.in-Some.is at)
