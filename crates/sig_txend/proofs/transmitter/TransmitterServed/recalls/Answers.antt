use Rattle.sig_txend.proofs.WatchLemmas.{one_history}
use Rattle.sig_txend.proofs.transmitter.TransmitterServed.recalls.Goals as goal

pub returns : goal.returns
returns g c =
    let D = g.D.Disk in
    one_history D.told D.seen D.may_leave c.args.node.now c.broken_at.ensures.kept
