use Rattle.sig_delivery.proofs.PushBack.{reads_back_push}
use Rattle.sig_delivery.proofs.laws.a_written_push_is_read_back.Goals as goal

pub returns : goal.returns
returns c = reads_back_push
