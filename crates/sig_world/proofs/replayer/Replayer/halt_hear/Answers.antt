use Rattle.std.proofs.Common.{refl, subst}
use Rattle.sig_journal.specs.Added.{rests_with_it}
use Rattle.sig_world.specs.Ends.{RxHaltedIn}
use Rattle.sig_world.proofs.HearerLemmas.{crashed-hear-plays, halted-hear-tells, stopped-hear-stops}
use Rattle.sig_world.proofs.ReplayerLemmas.{on_ok_one}
use Rattle.sig_world.proofs.replayer.Replayer.halt_hear.Goals as goal

pub returns-in-Ok-Answered-clause-plays : goal.returns-in-Ok-Answered-clause-plays
returns-in-Ok-Answered-clause-plays c =
    on_ok_one c.tell_heard.result
    (λ tells. halted-hear-tells c.args.self.now _ c.halt_rx-done.new.rx c.args.message c.in_ok-call.call c.args.number c.args.text.now _ (rests_with_it c.args.halt.calls c.args.halt.fill) c.in-Ok-Answered.field-0 c.in-Ok-Answered.answer
    c.in_ok-call.ensures c.in-Ok-Answered.field-0-is c.in-Ok-Answered.ensures.halted tells)
    c.tell_heard.ensures.told

pub returns-in_ok-add_halted-in-Ok-Crashed-clause-plays : goal.returns-in_ok-add_halted-in-Ok-Crashed-clause-plays
returns-in_ok-add_halted-in-Ok-Crashed-clause-plays c =
    crashed-hear-plays c.args.self.now _ c.args.message c.in_ok-call.call c.args.number c.args.text.now _ c.in_ok-call.ensures (rests_with_it c.args.halt.calls c.args.halt.fill) c.in-Ok-Crashed.kept
    (λ texts at. subst (RxHaltedIn texts c.in_ok-call.call (rests_with_it c.args.halt.calls c.args.halt.fill) c.halt_rx-done.new.rx) c.in-Ok-Crashed.field-0-is (c.in-Ok-Crashed.ensures.halted texts at))
    (record { added = c.in_ok-add_halted-in-Ok-Crashed.ensures; rules = refl; messages = refl; replies = refl; time = refl }) refl

pub returns-in-Err-clause-stops : goal.returns-in-Err-clause-stops
returns-in-Err-clause-stops c = stopped-hear-stops c.args.self.now c.args.message c.in_ok-call.call c.args.number c.in-Err.fault c.in_ok-call.ensures c.in-Err.ensures.full (rests_with_it c.args.halt.calls c.args.halt.fill)
