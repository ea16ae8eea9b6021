use Rattle.sig_rxend.proofs.WatchLemmas.{one_history}
use Rattle.sig_rxend.proofs.receiver.ReceiverServed.recalls.Goals as goal

pub returns : goal.returns
returns g c =
    let D = g.D.Disk in
    one_history D.told D.seen D.may_leave c.args.node.now c.broken_at.ensures.holds c.broken_at.ensures.history
