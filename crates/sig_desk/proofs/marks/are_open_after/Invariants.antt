use Rattle.std.proofs.Common.{ℕ, ◌<◌}
use Rattle.sig_desk.specs.Views.{IsOpen}
use Rattle.sig_desk.proofs.marks.are_open_after.Given as goal

-- those so far are open
abbrev pub invariant-loop-i : goal.invariant-loop-i
invariant-loop-i l = record {
  open_so_far : (number : ℕ) → l.links < number → number < l.i → IsOpen l.marks number;
}
