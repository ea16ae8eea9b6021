use Rattle.sig_rxend.proofs.WatchLemmas.{opened_follows}
use Rattle.sig_rxend.proofs.receiver.ReceiverServed.open_watch.Goals as goal

pub returns-clause-follows : goal.returns-clause-follows
returns-clause-follows g c =
    let D = g.D.Disk in
    opened_follows D.told D.seen D.may_leave c.args.node.now _ c.broken_at.ensures.holds c.open_watch.ensures
