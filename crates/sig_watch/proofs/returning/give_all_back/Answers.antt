use Rattle.std.proofs.Common.{◌∙◌, refl}
use Rattle.sig_watch.proofs.PassLemmas.{emptied, joined, stays}
use Rattle.sig_watch.proofs.returning.give_all_back.Goals as goal

pub loop-door-init : goal.loop-door-init
loop-door-init g c = record { hosts = c.requires.hosts; passes = stays _ _ _; same = refl }

pub loop-door-preserved : goal.loop-door-preserved
loop-door-preserved g c = record {
  hosts = c.give_back_next.ensures.hosts;
  passes = joined _ _ _ _ _ _ _ c.loop-door.invariant.passes c.give_back_next.ensures.passes;
  same = c.give_back_next.ensures.one_less.1 ∙ c.loop-door.invariant.same;
}

pub returns-clause-passes : goal.returns-clause-passes
returns-clause-passes g c =
    emptied (g.H.Host.serves c.args.host.now) _ _ _ c.loop-door.course.live.items _ _ _ (c.is_open.ensures.none c.loop-door-test.false) c.loop-door.invariant.passes
