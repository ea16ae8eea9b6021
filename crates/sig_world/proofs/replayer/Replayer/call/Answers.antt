use Rattle.sig_world.proofs.SenderLemmas.{call-tells}
use Rattle.sig_world.proofs.replayer.Replayer.call.Goals as goal

pub returns-in_ok-tell_answer-in-Ok-clause-plays : goal.returns-in_ok-tell_answer-in-Ok-clause-plays
returns-in_ok-tell_answer-in-Ok-clause-plays c =
    call-tells c.args.self.now _ c.ask_tx.new.tx c.args.call.now c.args.number c.args.text.now _ c.in-Ok.answer c.in-Ok.ensures.took c.in_ok-tell_answer-in-Ok.ensures
