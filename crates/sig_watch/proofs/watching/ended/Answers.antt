use Rattle.std.proofs.Common.{◌∙◌, ap, length, subst, sym}
use Rattle.sig_watch.specs.Receipts.{AreOf}
use Rattle.sig_watch.proofs.ReceiptLemmas.{compares}
use Rattle.sig_watch.proofs.watching.ended.Goals as goal

pub returns-clause-ends : goal.returns-clause-ends
returns-clause-ends g c =
    let number_of = g.G.Logged.number_of in (
      c.differ_of-differ.result,
      c.end_of.ensures.ends,
      λ logs of. compares g.N.Turn.LinkTurn.link_of number_of g.G.Logged.turns_of c.args.desk.now (g.N.Watched.turns_of c.args.node) logs c.as_slice-2.result.now _ c.differ_of-differ.result c.requires.keeps
          (ap length (c.as_slice-2.ensures ∙ sym c.as_slice.ensures)) (subst (AreOf number_of logs) (sym c.as_slice-2.ensures) of) c.differ_of-differ.ensures,
    )
