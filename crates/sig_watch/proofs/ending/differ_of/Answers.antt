use Rattle.std.proofs.Common.{subst}
use Rattle.std.specs.Prelude.{All}
use Rattle.std.proofs.lemmas.List.{take_all}
use Rattle.std.proofs.lemmas.List.Elements.{All-more}
use Rattle.sig_desk.specs.Settling.{IsShown}
use Rattle.sig_watch.proofs.ReceiptLemmas.{settled}
use Rattle.sig_watch.proofs.ending.differ_of.Goals as goal

pub loop-receipt-preserved : goal.loop-receipt-preserved
loop-receipt-preserved g c = record {
  shown = All-more (λ r. IsShown c.args.desk.now r) c.args.receipts.now c.loop-receipt.receipt-index c.receipt-item.result c.loop-receipt-test.true c.loop-receipt.invariant.shown
      (subst (λ r. IsShown c.args.desk.now r) c.receipt-item.is (c.shows.ensures.shown c.if-not-shows.false));
}

pub returns : goal.returns
returns g c =
    settled g.G.Turn.LinkTurn.link_of c.args.desk.now c.args.receipts.now c.args.links c.settle.result
    (subst (All (λ r. IsShown c.args.desk.now r)) (take_all c.loop-receipt.receipt-index c.args.receipts.now c.loop-receipt-test.false) c.loop-receipt.invariant.shown) c.settle.ensures
