use Rattle.sig_risc.proofs.ReadsRisc.{reads_risc}
use Rattle.sig_risc.proofs.laws.risc_is_read.Goals as goal

pub returns : goal.returns
returns c = reads_risc
