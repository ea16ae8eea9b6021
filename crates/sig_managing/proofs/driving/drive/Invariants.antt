use Rattle.std.proofs.Common.{◌≡◌, List, Some}
use Rattle.sig_command.specs.Moment.{output_state}
use Rattle.sig_manager.specs.Exchange.{begun}
use Rattle.sig_manager.specs.declared.step.Step.{Step}
use Rattle.sig_managing.proofs.MoreSteps.{GoesFrom, left_by}
use Rattle.sig_managing.proofs.driving.drive.Given as goal

abbrev pub invariant-loop-place : goal.invariant-loop-place
invariant-loop-place g l = record {
  goes : GoesFrom l.provider (begun l.fn.declared) l.manager (g.S.Side.view l.fn.side).ahead (g.S.Side.view l.side).ahead (g.S.Side.view l.fn.side).sent (g.S.Side.view l.side).sent
      (output_state (g.O.Sink.written l.fn.output) (g.O.Sink.faults l.fn.output) (g.O.Sink.stalls l.fn.output)) (output_state (g.O.Sink.written l.output) (g.O.Sink.faults l.output) (g.O.Sink.stalls l.output)) l.counts;
  listed : (steps : List Step) × (l.manager.steps ≡ Some steps);
  times : (g.S.Side.view l.side).times ≡ (g.S.Side.view l.fn.side).times;
  faults : (g.S.Side.view l.side).faults ≡ (g.S.Side.view l.fn.side).faults;
}

abbrev pub decreases-loop-place : goal.decreases-loop-place
decreases-loop-place g l = left_by l.manager.steps
