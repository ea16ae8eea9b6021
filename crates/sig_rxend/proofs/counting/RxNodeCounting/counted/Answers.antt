use Rattle.sig_rxend.proofs.CountingLemmas.{counted_by}
use Rattle.sig_rxend.proofs.counting.RxNodeCounting.counted.Goals as goal

pub returns-clause-counted : goal.returns-clause-counted
returns-clause-counted g c = counted_by _ c.counted_text-2.result c.counted_text-2.ensures
