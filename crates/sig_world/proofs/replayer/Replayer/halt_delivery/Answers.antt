use Rattle.std.proofs.Common.{subst, sym}
use Rattle.sig_journal.specs.Added.{rests_with_it}
use Rattle.sig_schedules.specs.Replay.{stopped_delivery}
use Rattle.sig_world.specs.Replaying.{Goes, GoesNot}
use Rattle.sig_world.proofs.ReplayerLemmas.{found-message, on_err_one, on_ok_one}
use Rattle.sig_world.proofs.replayer.Replayer.halt_delivery.Goals as goal

pub returns-in_ok-message-in-Some-clause-plays : goal.returns-in_ok-message-in-Some-clause-plays
returns-in_ok-message-in-Some-clause-plays c =
    on_ok_one c.halt_hear.result
    (λ plays w at. subst (λ o. Goes (stopped_delivery c.args.number w o (rests_with_it c.args.halt.calls c.args.halt.fill)) c.halt_hear.new.self c.args.text.now c.halt_hear.new.text) (sym (found-message c.args.self.now w c.args.place c.in-Some.message.now c.in_ok-message-in-Some.message c.as_slice.result.now at c.in_ok-message-in-Some.ensures c.in-Some.ensures c.as_slice.ensures.value)) (plays w at))
    c.halt_hear.ensures.plays

pub returns-in_ok-message-in-Some-clause-stops : goal.returns-in_ok-message-in-Some-clause-stops
returns-in_ok-message-in-Some-clause-stops c =
    on_err_one c.halt_hear.result
    (λ f h w at. subst (λ o. GoesNot (stopped_delivery c.args.number w o (rests_with_it c.args.halt.calls c.args.halt.fill)) f) (sym (found-message c.args.self.now w c.args.place c.in-Some.message.now c.in_ok-message-in-Some.message c.as_slice.result.now at c.in_ok-message-in-Some.ensures c.in-Some.ensures c.as_slice.ensures.value)) (h w at))
    c.halt_hear.ensures.stops
