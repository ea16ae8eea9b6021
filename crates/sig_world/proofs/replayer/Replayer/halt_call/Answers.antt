use Rattle.std.proofs.Common.{refl, subst}
use Rattle.sig_journal.specs.Added.{rests_with_it}
use Rattle.sig_world.specs.Ends.{TxHaltedIn}
use Rattle.sig_world.proofs.SenderLemmas.{crashed-plays, halted-tells}
use Rattle.sig_world.proofs.replayer.Replayer.halt_call.Goals as goal

pub returns-in_ok-tell_answer-in-Ok-Answered-clause-plays : goal.returns-in_ok-tell_answer-in-Ok-Answered-clause-plays
returns-in_ok-tell_answer-in-Ok-Answered-clause-plays c =
    halted-tells c.args.self.now _ c.halt_tx-done.new.tx c.args.call.now c.args.number c.args.text.now _ (rests_with_it c.args.halt.calls c.args.halt.fill) c.in-Ok-Answered.field-0 c.in-Ok-Answered.answer c.in-Ok-Answered.field-0-is
    c.in-Ok-Answered.ensures.halted c.in_ok-tell_answer-in-Ok-Answered.ensures

pub returns-in_ok-add_halted-in-Ok-Crashed-clause-plays : goal.returns-in_ok-add_halted-in-Ok-Crashed-clause-plays
returns-in_ok-add_halted-in-Ok-Crashed-clause-plays c =
    crashed-plays c.args.self.now _ c.args.call.now c.args.number c.args.text.now _ (rests_with_it c.args.halt.calls c.args.halt.fill) c.in-Ok-Crashed.kept
    (λ facts at. subst (TxHaltedIn facts c.args.call.now c.args.self.now.time (rests_with_it c.args.halt.calls c.args.halt.fill) c.halt_tx-done.new.tx) c.in-Ok-Crashed.field-0-is (c.in-Ok-Crashed.ensures.halted facts at))
    (record { added = c.in_ok-add_halted-in-Ok-Crashed.ensures; rules = refl; messages = refl; replies = refl; time = refl }) refl
