use Rattle.sig_rxend.proofs.CountingLemmas.{counted_so}
use Rattle.sig_rxend.proofs.locked.LockedReceiverCounting.counted.Goals as goal

pub returns-clause-counted : goal.returns-clause-counted
returns-clause-counted g c = counted_so _ c.counted.result c.counted.ensures
