use Rattle.sig_delivery.proofs.ReadInOrder.{reads_asks_in_order}
use Rattle.sig_delivery.proofs.laws.asks_are_read_in_order.Goals as goal

pub returns : goal.returns
returns c = reads_asks_in_order
