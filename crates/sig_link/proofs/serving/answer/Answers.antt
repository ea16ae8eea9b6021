use Rattle.std.proofs.Common.{ap, ◌∙◌}
use Rattle.sig_link.specs.Serving.{end_after}
use Rattle.sig_link.proofs.AnswerLemmas.{answered_not, answered_out, answered_whole}
use Rattle.sig_link.proofs.serving.answer.Goals as goal

pub returns-in-Err-clause-answers : goal.returns-in-Err-clause-answers
returns-in-Err-clause-answers g c =
    answered_out _ _ _ _ _ _ _ _ _ _ _ _ _ _ c.run_out.ensures.end c.in-Err.ensures.tries c.in-Err.ensures.memory c.in-Err.ensures.turns c.run_out.ensures.sends

pub returns-in-Ok-respond-clause-answers : goal.returns-in-Ok-respond-clause-answers
returns-in-Ok-respond-clause-answers g c =
    let ends = c.end_after.ensures ∙ ap (end_after c.args.request.now) c.is_err-starved.ensures.value in
    answered_whole _ _ _ _ _ c.in-Ok.course g.met.E.End.grows c.closes_after-close.result _ _ _ _ _ _ _ _ _ _ _ _ _ _ _ c.closes_after-close.ensures ends
    c.in-Ok.ensures.comes c.in-Ok.ensures.told c.in-Ok.ensures.turns c.in-Ok-respond.ensures.answered c.in-Ok-respond.ensures.told c.follow.ensures.follows

pub returns-in-Err-respond-clause-answers : goal.returns-in-Err-respond-clause-answers
returns-in-Err-respond-clause-answers g c =
    answered_not _ _ _ _ _ c.in-Ok.course c.closes_after-close.result c.in-Err-respond.end _ _ _ _ _ _ _ _ _ _ c.closes_after-close.ensures
    c.in-Ok.ensures.comes c.in-Ok.ensures.told c.in-Ok.ensures.turns c.keep.ensures.turns c.in-Err-respond.ensures.answered c.in-Err-respond.ensures.told
