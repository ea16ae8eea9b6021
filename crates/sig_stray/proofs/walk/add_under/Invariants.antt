use Rattle.std.proofs.Common.{◌≡◌, ◌++◌}
use Rattle.std.specs.Vec.Iter.{into_iter_items}
use Rattle.sig_stray.specs.Strays.{under}
use Rattle.sig_stray.proofs.walk.add_under.Given as goal

abbrev pub invariant-loop-stray : goal.invariant-loop-stray
invariant-loop-stray l = l.initial.all.items ++ under l.step (into_iter_items l.initial.stray-iterator) ≡ l.all.items ++ under l.step (into_iter_items l.stray-iterator)
