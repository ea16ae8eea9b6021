use Rattle.std.proofs.Common.{◌≡◌, ◌≤◌}
use Rattle.std.specs.Prelude.{IfSome}
use Rattle.sig_json.specs.declared.limits.TheConstants.{LAST_NUMBER}
use Rattle.sig_outside.specs.Reading.{IsOpen}
use Rattle.sig_command.specs.Moment.{Calm, moment}
use Rattle.sig_command.specs.Progress.{Standing, Stood}
use Rattle.sig_command.proofs.telling.tell_lines.Given as goal

abbrev pub invariant-loop-line : goal.invariant-loop-line
invariant-loop-line g l = record {
  told : g.T.Teller.told l.teller ≡ g.T.Teller.told l.fn.teller;
  stays : IsOpen l.reader;
  counted : l.reader.number ≡ l.line;
  bound : l.reader.number ≤ LAST_NUMBER;
  stood : Stood (g.T.Teller.told l.teller) (g.T.Teller.stands l.teller) l.line;
  calm : Calm (moment (g.I.Source.left l.fn.input) (g.I.Source.faults l.fn.input) (g.O.Sink.written l.fn.output) (g.O.Sink.faults l.fn.output) (g.O.Sink.stalls l.fn.output))
      (moment (g.I.Source.left l.input) (g.I.Source.faults l.input) (g.O.Sink.written l.output) (g.O.Sink.faults l.output) (g.O.Sink.stalls l.output));
  stands : IfSome (g.I.Source.left l.fn.input) (λ told. Standing (g.T.Teller.told l.teller) (g.T.Teller.stands l.teller) told l.reader (g.I.Source.left l.input) l.gathered (g.O.Sink.written l.fn.output) (g.O.Sink.written l.output));
}
