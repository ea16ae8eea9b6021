use Rattle.sig_delivery.proofs.SetsBack.{reads_back_sets}
use Rattle.sig_delivery.proofs.laws.written_sets_are_read_back.Goals as goal

pub returns : goal.returns
returns c = reads_back_sets
