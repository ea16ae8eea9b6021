use Rattle.std.proofs.Common.{subst, sym}
use Rattle.sig_schedules.specs.Replay.{played_delivery}
use Rattle.sig_world.specs.Replaying.{GoesNot}
use Rattle.sig_world.proofs.ReplayerLemmas.{found-message, on_err_one}
use Rattle.sig_world.proofs.replayer.Replayer.deliver.Goals as goal

pub returns-in_ok-message-in-Some-clause-stops : goal.returns-in_ok-message-in-Some-clause-stops
returns-in_ok-message-in-Some-clause-stops c =
    on_err_one c.hear.result
    (λ f h w at. subst (λ o. GoesNot (played_delivery c.args.number w o) f) (sym (found-message c.args.self.now w c.args.place c.in-Some.message.now c.in_ok-message-in-Some.message c.as_slice.result.now at c.in_ok-message-in-Some.ensures c.in-Some.ensures c.as_slice.ensures.value)) (h w at))
    c.hear.ensures.stops
