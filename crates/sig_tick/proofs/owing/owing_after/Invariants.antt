use Rattle.std.proofs.Common.{◌≡◌, ◌++◌, length}
use Rattle.sig_tick.specs.Owing.{owing_after}
use Rattle.sig_tick.proofs.owing.owing_after.Given as goal

abbrev pub invariant-loop-turn : goal.invariant-loop-turn
invariant-loop-turn l = l.names.items ++ owing_after l.left ≡ owing_after l.turns

abbrev pub decreases-loop-turn : goal.decreases-loop-turn
decreases-loop-turn l = length l.left
