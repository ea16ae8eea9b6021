use Rattle.std.proofs.Common.{sym}
use Rattle.sig_push.proofs.PushLemmas.{hears_as, sends_push}
use Rattle.sig_push.proofs.pushing.push.Goals as goal

pub returns-clause-sends : goal.returns-clause-sends
returns-clause-sends g c =
    sends_push c.args.rules.now c.args.token.now c.in-Some.endpoint c.in-Some-place_for.place.now c.in_ok-request.request _ _
    c.in-Some.is (sym c.in-Some-place_for.ensures) c.in_ok-request.ensures c.settled_by.ensures _ _ c.ask-answer.ensures.sends

pub returns-clause-hears : goal.returns-clause-hears
returns-clause-hears g c = hears_as _ _ c.settled_by.ensures _ _ c.ask-answer.ensures.hears
