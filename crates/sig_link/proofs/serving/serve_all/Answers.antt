use Rattle.std.proofs.Common.{arith, refl, ◌∙◌}
use Rattle.sig_link.proofs.EndLemmas.{serves_spent, serves_with, standing_more, standing_start}
use Rattle.sig_link.proofs.serving.serve_all.Goals as goal

pub loop-work-init : goal.loop-work-init
loop-work-init g c = record { few = omega arith; link = refl; place = refl; standing = standing_start _ _ _ g.met.E.End.grows _ _ c.requires }

pub returns-in-Some-clause-serves : goal.returns-in-Some-clause-serves
returns-in-Some-clause-serves g c =
    let h = c.loop-work.invariant in
    serves_with _ _ g.met.E.End.grows _ _ _ c.in-Some.end _ _ _ h.standing h.link c.loop-work-test.true c.in-Some.ensures.passes

pub loop-work-preserved : goal.loop-work-preserved
loop-work-preserved g c =
    let h = c.loop-work.invariant in
    record {
      few = omega (arith, c.in-None.ensures.counts.1);
      link = c.in-None.ensures.counts.0 ∙ h.link;
      place = c.in-None.ensures.place ∙ h.place;
      standing = standing_more _ _ g.met.E.End.grows _ _ _ _ _ _ _ h.standing h.link c.in-None.ensures.counts.1 c.in-None.ensures.passes;
    }

pub returns-clause-serves : goal.returns-clause-serves
returns-clause-serves g c =
    let h = c.loop-work.invariant in
    serves_spent _ _ _ _ _ _ h.standing c.loop-work-test.false h.few
