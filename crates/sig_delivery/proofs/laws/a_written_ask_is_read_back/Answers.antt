use Rattle.sig_delivery.proofs.AsksBack.{reads_back_ask}
use Rattle.sig_delivery.proofs.laws.a_written_ask_is_read_back.Goals as goal

pub returns : goal.returns
returns c = reads_back_ask
