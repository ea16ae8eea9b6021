use Rattle.std.proofs.Common.{◌≡◌, ◌++◌, flat_map, string_bytes}
use Rattle.sig_txend.specs.Counting.{due_line}
use Rattle.sig_txend.proofs.counting.put_due_lines.Given as goal

abbrev pub invariant-loop-stream : goal.invariant-loop-stream
invariant-loop-stream l =
    string_bytes l.initial.text ++ flat_map due_line l.initial.stream-iterator ≡ string_bytes l.text ++ flat_map due_line l.stream-iterator
