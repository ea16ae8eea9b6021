use Rattle.sig_txend.proofs.ErrandLemmas.{looked_more, looked_none}
use Rattle.sig_txend.proofs.errands.do_errand.Goals as goal

pub returns-then-not-goes_on : goal.returns-then-not-goes_on
returns-then-not-goes_on g c =
    looked_more c.args.rules.now c.args.number _ _ _ _ _ c.loop.invariant.looked c.do_next-goes_on.ensures

pub loop-preserved : goal.loop-preserved
loop-preserved g c = record {
  looked = looked_more c.args.rules.now c.args.number _ _ _ _ _ c.loop.invariant.looked c.do_next-goes_on.ensures;
}
