use Rattle.std.proofs.Common.{◌≡◌, ◌+◌, ◌++◌, ℕ, List, drop}
use Rattle.std.specs.Io.KnownBytes.{Appends}
use Rattle.sig_command.specs.Moment.{OutputCalm, output_state}
use Rattle.sig_receiver.specs.Printed.{rows_text}
use Rattle.sig_fold.proofs.tabling.print_rows.Given as goal

abbrev pub invariant-loop-row : goal.invariant-loop-row
invariant-loop-row g l = record {
  place : l.place ≡ l.row-index + 1;
  calm : OutputCalm (output_state (g.O.Sink.written l.fn.output) (g.O.Sink.faults l.fn.output) (g.O.Sink.stalls l.fn.output)) (output_state (g.O.Sink.written l.output) (g.O.Sink.faults l.output) (g.O.Sink.stalls l.output));
  so_far : (text : List ℕ) × ((text ++ l.gathered) ++ rows_text l.place (drop l.row-index l.rows) ≡ l.fn.gathered ++ rows_text 1 l.rows)
      × Appends (g.O.Sink.written l.fn.output) (g.O.Sink.written l.output) text;
}
