use Rattle.std.proofs.Common.{◌≡◌, ℕ, List, ◌++◌, length}
use Rattle.std.specs.Io.KnownBytes.{Appends}
use Rattle.sig_outside.proofs.sink.put_all.Given as goal

abbrev pub invariant-loop-rest : goal.invariant-loop-rest
invariant-loop-rest g l = record {
  so_far : (front : List ℕ) × (l.bytes ≡ front ++ l.rest) × Appends (g.O.Sink.written l.fn.sink) (g.O.Sink.written l.sink) front;
  beside : g.O.Sink.beside l.sink ≡ g.O.Sink.beside l.fn.sink;
  steady : g.O.Sink.faults l.sink ≡ g.O.Sink.faults l.fn.sink;
  flows : g.O.Sink.stalls l.sink ≡ g.O.Sink.stalls l.fn.sink;
}

abbrev pub decreases-loop-rest : goal.decreases-loop-rest
decreases-loop-rest g l = length l.rest
