use Rattle.std.proofs.Common.{take}
use Rattle.sig_outside.specs.Lines.{HasNoLf}
use Rattle.sig_outside.proofs.held.newline_from.Given as goal

abbrev pub invariant-loop-at : goal.invariant-loop-at
invariant-loop-at l = HasNoLf (take l.at l.bytes)
