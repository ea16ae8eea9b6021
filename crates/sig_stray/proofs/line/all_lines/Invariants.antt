use Rattle.std.proofs.Common.{◌≡◌, ◌++◌}
use Rattle.std.specs.Prelude.{map}
use Rattle.std.specs.Vec.Iter.{into_iter_items}
use Rattle.sig_stray.specs.Lines.{line_of}
use Rattle.sig_stray.proofs.line.all_lines.Given as goal

abbrev pub invariant-loop-stray : goal.invariant-loop-stray
invariant-loop-stray l = map line_of (into_iter_items l.initial.stray-iterator) ≡ l.lines.items ++ map line_of (into_iter_items l.stray-iterator)
