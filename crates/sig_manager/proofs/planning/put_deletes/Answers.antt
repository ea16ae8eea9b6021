use Rattle.std.proofs.Common.{◌≡◌, ◌∙◌, ap, ◌++◌, ◌<◌, length, option_to_list, Option, arith}
use Rattle.sig_manager.specs.declared.step.Step.{Step}
use Rattle.sig_manager.proofs.Planned.{one_more_deleted}
use Rattle.sig_manager.proofs.planning.put_deletes.Goals as goal

pub loop-i-preserved : goal.loop-i-preserved
loop-i-preserved c =
    let h : c.loop-i.i < length c.args.listed.now = omega arith in
    c.in_ok-put_step.ensures.put
    ∙ ap (λ (o : Option Step). c.loop-i.steps.items ++ option_to_list o) c.in_ok-step.ensures
    ∙ one_more_deleted c.args.declared.now c.args.listed.now c.loop-i.i c.index-listed-i.result _ _ h c.index-listed-i.is c.loop-i.invariant
