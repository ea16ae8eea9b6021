use Rattle.std.proofs.Common.{ℕ, arith, subst}
use Rattle.sig_watch.specs.Passing.{LetsIn}
use Rattle.sig_watch.proofs.PassLemmas.{after, goes_on, joined, lets_more, lets_none, stays}
use Rattle.sig_watch.proofs.accepting.accept_all.Goals as goal

pub loop-init : goal.loop-init
loop-init g c = record {
  hosts = c.requires.hosts;
  passes = stays _ _ _;
  lets_in = lets_none (g.H.Host.answered c.args.host.now) c.args.course.now.count;
  grows = omega arith;
}

pub loop-preserved : goal.loop-preserved
loop-preserved g c =
    let serves = g.H.Host.serves c.args.host.now in
    let answered = g.H.Host.answered c.args.host.now in
    record {
      hosts = c.advance.ensures.hosts;
      passes = joined serves _ _ _ _ _ _ (joined serves _ _ _ _ _ _ c.loop.invariant.passes c.give_back_ended.ensures.passes)
          (goes_on serves _ _ _ _ _ c.in_default.is c.advance.ensures.passes);
      lets_in = lets_more answered _ _ _ c.loop.invariant.lets_in
          (subst (λ (n : ℕ). LetsIn answered n c.advance.new.course.count) c.give_back_ended.ensures.same c.advance.ensures.lets_in);
      grows = omega (arith, c.loop.invariant.grows, c.give_back_ended.ensures.same, c.advance.ensures.grows);
    }

pub returns-in-Some-advance-clause-passes : goal.returns-in-Some-advance-clause-passes
returns-in-Some-advance-clause-passes g c =
    let serves = g.H.Host.serves c.args.host.now in
    after serves _ _ _ _ _ _ _ _ c.in-Some-advance.is (joined serves _ _ _ _ _ _ c.loop.invariant.passes c.give_back_ended.ensures.passes) c.advance.ensures.passes

pub returns-in-Some-advance-clause-lets_in : goal.returns-in-Some-advance-clause-lets_in
returns-in-Some-advance-clause-lets_in g c =
    let answered = g.H.Host.answered c.args.host.now in
    lets_more answered _ _ _ c.loop.invariant.lets_in
    (subst (λ (n : ℕ). LetsIn answered n c.advance.new.course.count) c.give_back_ended.ensures.same c.advance.ensures.lets_in)
