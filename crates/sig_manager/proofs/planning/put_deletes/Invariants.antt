use Rattle.std.proofs.Common.{◌≡◌, ◌++◌, take}
use Rattle.sig_manager.specs.Planning.{deletes_of}
use Rattle.sig_manager.proofs.planning.put_deletes.Given as goal

abbrev pub invariant-loop-i : goal.invariant-loop-i
invariant-loop-i l = l.steps.items ≡ l.initial.steps.items ++ deletes_of l.declared (take l.i l.listed)
