use Rattle.sig_ticking.proofs.RunLemmas.{runs_over}
use Rattle.sig_ticking.proofs.running.make_ticks.Goals as goal

pub returns-clause-makes : goal.returns-clause-makes
returns-clause-makes g c =
    runs_over g.X.D.Disk.told c.args.by.now c.tick_lines-end.result c.args.node c.tick_lines-end.new.node _ _ _ _ _ _ _ _ _ (g.X.A.S.Side.view c.side-side.result) (g.X.A.S.Side.view c.tick_lines-end.new.side) _ _
    c.side-side.ensures.next c.back_side.ensures.sides c.side-side.ensures.begins c.side-side.ensures.whole c.side-side.ensures.back c.side-side.ensures.lends c.back_side.ensures.back
    c.tick_lines-end.ensures.made c.tick_lines-end.ensures.files
