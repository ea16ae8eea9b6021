use Rattle.sig_world.proofs.HearerLemmas.{hear-stops, hear-tells}
use Rattle.sig_world.proofs.ReplayerLemmas.{on_ok_one}
use Rattle.sig_world.proofs.replayer.Replayer.hear.Goals as goal

pub returns-in-Ok-clause-plays : goal.returns-in-Ok-clause-plays
returns-in-Ok-clause-plays c =
    on_ok_one c.tell_heard.result
    (λ tells. hear-tells c.args.self.now _ c.ask_rx-told.new.rx c.args.message c.in_ok-call.call c.args.number c.args.text.now _ c.in-Ok.answer c.in_ok-call.ensures c.in-Ok.ensures.took tells)
    c.tell_heard.ensures.told

pub returns-in-Err-clause-stops : goal.returns-in-Err-clause-stops
returns-in-Err-clause-stops c = hear-stops c.args.self.now c.args.message c.in_ok-call.call c.args.number c.in-Err.fault c.in_ok-call.ensures c.in-Err.ensures.full
