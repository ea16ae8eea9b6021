use Rattle.sig_tick.proofs.OverNodeLemmas.{files_by, ticked_by}
use Rattle.sig_tick.proofs.over_node.tick.Goals as goal

pub returns-clause-ticked : goal.returns-clause-ticked
returns-clause-ticked g c =
    ticked_by g.D.Disk.told c.args.rules.now _ _ c.args.node.now c.open_watch.new.self c.tick_over-attempts.new.taker _ _ _ c.open_watch.ensures.opens c.requires.rules c.tick_over-attempts.ensures

pub returns-clause-files : goal.returns-clause-files
returns-clause-files g c =
    files_by g.D.Disk.told c.args.rules.now _ _ c.args.node.now c.open_watch.new.self c.tick_over-attempts.new.taker _ _ _ c.open_watch.ensures.opens c.tick_over-attempts.ensures
