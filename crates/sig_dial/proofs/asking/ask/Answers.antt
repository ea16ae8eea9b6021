use Rattle.std.proofs.Common.{◌∙◌}
use Rattle.sig_dial.proofs.AskLemmas.{begun, hears_next, sends_back}
use Rattle.sig_dial.proofs.asking.ask.Goals as goal

pub returns-in-Ok-clause-sends : goal.returns-in-Ok-clause-sends
returns-in-Ok-clause-sends g c =
    sends_back c.args.to.now _ _ _ _ _ _ _ _ _ _ _ c.in-Ok.ensures.others.1 (c.exchange-answer.ensures.place ∙ c.in-Ok.ensures.place) (begun _ _ c.in-Ok.ensures.begins) c.in-Ok.ensures.lends
    c.exchange-answer.ensures.writes c.back.ensures.back

pub returns-in-Ok-clause-hears : goal.returns-in-Ok-clause-hears
returns-in-Ok-clause-hears g c = hears_next _ _ _ _ _ _ c.in-Ok.ensures.next c.exchange-answer.ensures.decides c.back.ensures.others.0
