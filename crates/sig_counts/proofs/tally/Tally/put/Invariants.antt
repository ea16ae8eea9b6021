use Rattle.std.proofs.Common.{◌≡◌, ◌++◌, flat_map, string_bytes}
use Rattle.sig_counts.specs.Tallies.{line_of}
use Rattle.sig_counts.proofs.tally.Tally.put.Given as goal

abbrev pub invariant-loop-label : goal.invariant-loop-label
invariant-loop-label l =
    string_bytes l.initial.text ++ flat_map (line_of l.front) l.initial.label-iterator
    ≡ string_bytes l.text ++ flat_map (line_of l.front) l.label-iterator
