use Rattle.sig_caep.proofs.ReadsCaep.{reads_caep}
use Rattle.sig_caep.proofs.laws.caep_is_read.Goals as goal

pub returns : goal.returns
returns c = reads_caep
