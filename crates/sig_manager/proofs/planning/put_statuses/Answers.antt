use Rattle.std.proofs.Common.{◌≡◌, ◌∙◌, ap, ◌++◌, ◌<◌, length, option_to_list, Option, arith}
use Rattle.sig_manager.specs.Planning.{status_for}
use Rattle.sig_manager.specs.declared.step.Step.{Step}
use Rattle.sig_manager.proofs.Planned.{one_more}
use Rattle.sig_manager.proofs.planning.put_statuses.Goals as goal

pub loop-stream-preserved : goal.loop-stream-preserved
loop-stream-preserved c =
    let h : c.loop-stream.stream-index < length c.args.declared.now = omega arith in
    c.in_ok-put_step.ensures.put
    ∙ ap (λ (o : Option Step). c.loop-stream.steps.items ++ option_to_list o) c.in_ok-step.ensures
    ∙ one_more (status_for c.args.listed.now) c.args.declared.now c.loop-stream.stream-index c.stream-item.result _ _ h c.stream-item.is c.loop-stream.invariant
