use Rattle.std.proofs.Common.{◌∙◌, refl}
use Rattle.sig_watch.proofs.PassLemmas.{joined, stays}
use Rattle.sig_watch.proofs.returning.give_back_ended.Goals as goal

pub loop-init : goal.loop-init
loop-init g c = record { hosts = c.requires.hosts; passes = stays _ _ _; same = refl }

pub loop-preserved : goal.loop-preserved
loop-preserved g c = record {
  hosts = c.give_back_numbered.ensures.hosts;
  passes = joined _ _ _ _ _ _ _ c.loop.invariant.passes c.give_back_numbered.ensures.passes;
  same = c.give_back_numbered.ensures.same ∙ c.loop.invariant.same;
}
