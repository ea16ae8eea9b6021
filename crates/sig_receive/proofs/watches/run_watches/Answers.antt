use Rattle.std.proofs.Common.{◌∙◌, arith}
use Rattle.sig_opening.proofs.WatchLemmas.{at_none, at_some, ran_more, ran_to_stop}
use Rattle.sig_receive.specs.Watches.{IsWatch, tells_of}
use Rattle.sig_receive.proofs.watches.run_watches.Goals as goal

pub returns-in-Some-clause-runs : goal.returns-in-Some-clause-runs
returns-in-Some-clause-runs g c =
    ran_to_stop IsWatch tells_of c.args.node.rules c.loop.node.rules c.in-Some.end c.loop.counter c.args.watches _ _ _ c.loop.invariant.rules (omega arith) c.loop.invariant.ran
    (at_some c.run_watch-next.result.end c.in-Some.end _ c.in-Some.is c.run_watch-next.ensures.stops)

pub loop-preserved : goal.loop-preserved
loop-preserved g c = record {
  ran = ran_more IsWatch tells_of c.args.node.rules c.loop.node.rules c.loop.counter _ _ _ c.loop.invariant.rules c.loop.invariant.ran
      (at_none c.run_watch-next.result.end _ c.in_default.is c.run_watch-next.ensures.goes_on);
  rules = c.run_watch-next.ensures.rules ∙ c.loop.invariant.rules;
  whole = at_none c.run_watch-next.result.end _ c.in_default.is c.run_watch-next.ensures.whole;
}
