use Rattle.std.proofs.Common.{[]}
use Rattle.sig_nodes.proofs.KeptLemmas.{if_ok}
use Rattle.sig_nodes.proofs.ReceivingLemmas.{new_loads}
use Rattle.sig_nodes.proofs.receiving.new_rx.Goals as goal

pub returns-in-Ok : goal.returns-in-Ok
returns-in-Ok c = if_ok c.load_rx.result (λ n h. h c.args.store_id [] c.in-Ok.ensures (new_loads c.args.store_id)) c.load_rx.ensures
