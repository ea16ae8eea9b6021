use Rattle.std.proofs.Common.{◌≡◌, ◌≤◌}
use Rattle.std.specs.Prelude.{IsSome}
use Rattle.sig_outside.specs.Reading.{IsOpen}
use Rattle.sig_lines.proofs.running.answer_lines.Given as goal

abbrev pub invariant-loop : goal.invariant-loop
invariant-loop g l = record {
  stays : IsOpen l.reader;
  told : IsSome (g.I.Source.left l.fn.input) → IsSome (g.I.Source.left l.input);
  input_later : g.I.Source.faults l.fn.input ≤ g.I.Source.faults l.input;
  later : g.O.Sink.faults l.fn.output ≤ g.O.Sink.faults l.output;
  still : g.O.Sink.stalls l.output ≡ g.O.Sink.stalls l.fn.output;
}
