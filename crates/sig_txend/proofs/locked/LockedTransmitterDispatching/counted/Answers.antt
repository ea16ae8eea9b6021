use Rattle.sig_txend.proofs.CountingLemmas.{counted_so}
use Rattle.sig_txend.proofs.locked.LockedTransmitterDispatching.counted.Goals as goal

pub returns-clause-counted : goal.returns-clause-counted
returns-clause-counted g c = counted_so _ _ c.counted.result c.counted.ensures
