use Rattle.std.proofs.Common.{◌≡◌, ◌++◌, flat_map, string_bytes}
use Rattle.sig_txend.specs.Counting.{late_line}
use Rattle.sig_txend.proofs.counting.put_late_lines.Given as goal

abbrev pub invariant-loop-stream : goal.invariant-loop-stream
invariant-loop-stream l =
    string_bytes l.initial.text ++ flat_map late_line l.initial.stream-iterator ≡ string_bytes l.text ++ flat_map late_line l.stream-iterator
