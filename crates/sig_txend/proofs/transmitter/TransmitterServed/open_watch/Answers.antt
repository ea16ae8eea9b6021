use Rattle.sig_txend.proofs.WatchLemmas.{opened_follows}
use Rattle.sig_txend.proofs.transmitter.TransmitterServed.open_watch.Goals as goal

pub returns-clause-follows : goal.returns-clause-follows
returns-clause-follows g c = opened_follows g.D.Disk.told c.args.node.now _ c.open_watch.ensures.opens
