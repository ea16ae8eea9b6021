use Rattle.sig_command.specs.Moment.{moment}
use Rattle.sig_program.proofs.EndLemmas.{fold-wrote, replay-wrote}
use Rattle.sig_program.proofs.running.run_command.Goals as goal

pub returns-in-Fold-clause-text : goal.returns-in-Fold-clause-text
returns-in-Fold-clause-text g c =
    fold-wrote c.args.command _ _ (g.I.Source.left c.args.input.now)
    (moment (g.I.Source.left c.args.input.now) (g.I.Source.faults c.args.input.now) (g.O.Sink.written c.args.output.now) (g.O.Sink.faults c.args.output.now) (g.O.Sink.stalls c.args.output.now))
    (moment (g.I.Source.left c.run_fold.new.input) (g.I.Source.faults c.run_fold.new.input) (g.O.Sink.written c.run_fold.new.output) (g.O.Sink.faults c.run_fold.new.output) (g.O.Sink.stalls c.run_fold.new.output))
    c.run_fold.result (cc) c.run_fold.ensures.text

pub returns-in-Replay-clause-text : goal.returns-in-Replay-clause-text
returns-in-Replay-clause-text g c =
    replay-wrote c.args.command (g.I.Source.left c.args.input.now)
    (moment (g.I.Source.left c.args.input.now) (g.I.Source.faults c.args.input.now) (g.O.Sink.written c.args.output.now) (g.O.Sink.faults c.args.output.now) (g.O.Sink.stalls c.args.output.now))
    (moment (g.I.Source.left c.replay.new.input) (g.I.Source.faults c.replay.new.input) (g.O.Sink.written c.replay.new.output) (g.O.Sink.faults c.replay.new.output) (g.O.Sink.stalls c.replay.new.output))
    c.replay.result (cc) c.replay.ensures.text
