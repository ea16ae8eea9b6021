use Rattle.sig_txend.proofs.StoreLemmas.{node_tells}
use Rattle.sig_txend.proofs.stored.TransmitterStored.into_disks.Goals as goal

pub returns-clause-tells : goal.returns-clause-tells
returns-clause-tells g c = node_tells g.D.Disk.told g.D.Disk.seen g.D.Disk.may_leave g.met.D.Disk.reads_now c.args.node c.broken_at.ensures.kept
