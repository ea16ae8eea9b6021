use Rattle.sig_delivery.proofs.ReadInOrder.{reads_sets_in_order}
use Rattle.sig_delivery.proofs.laws.sets_are_read_in_order.Goals as goal

pub returns : goal.returns
returns c = reads_sets_in_order
