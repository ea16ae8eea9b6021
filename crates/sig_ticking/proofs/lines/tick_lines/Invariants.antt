use Rattle.std.proofs.Common.{◌≡◌, ◌≤◌, None, List, []}
use Rattle.sig_command.specs.Moment.{moment}
use Rattle.sig_courier.specs.Schedule.{IsLogged}
use Rattle.sig_courier.specs.declared.attempt.Attempt.{Attempt}
use Rattle.sig_json.specs.declared.limits.TheConstants.{LAST_NUMBER}
use Rattle.sig_outside.specs.Reading.{IsOpen}
use Rattle.sig_txnode.specs.Node.{files_told}
use Rattle.sig_ticking.specs.Lines.{GoesOn}
use Rattle.sig_ticking.specs.Ticks.{with_node}
use Rattle.sig_ticking.proofs.lines.tick_lines.Given as goal

abbrev pub invariant-loop-line : goal.invariant-loop-line
invariant-loop-line g l = record {
  whole : l.node.store.broken_at ≡ None;
  rules : l.rules ≡ l.node.rules;
  rules_same : l.node.rules ≡ l.fn.node.rules;
  files : files_told g.D.Disk.told l.node ≡ files_told g.D.Disk.told l.fn.node;
  stays : IsOpen l.reader;
  counted : l.reader.number ≡ l.line;
  bound : l.reader.number ≤ LAST_NUMBER;
  made : (log : List Attempt) × IsLogged l.schedule log
      × GoesOn l.rules l.line (with_node g.D.Disk.told l.fn.node (g.S.Side.view l.fn.side) []) (with_node g.D.Disk.told l.node (g.S.Side.view l.side) log) l.reader
      (moment (g.I.Source.left l.fn.input) (g.I.Source.faults l.fn.input) (g.O.Sink.written l.fn.output) (g.O.Sink.faults l.fn.output) (g.O.Sink.stalls l.fn.output))
      (moment (g.I.Source.left l.input) (g.I.Source.faults l.input) (g.O.Sink.written l.output) (g.O.Sink.faults l.output) (g.O.Sink.stalls l.output));
}
