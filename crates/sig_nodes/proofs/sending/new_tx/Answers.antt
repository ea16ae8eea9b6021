use Rattle.std.proofs.Common.{[]}
use Rattle.sig_nodes.proofs.KeptLemmas.{if_ok}
use Rattle.sig_nodes.proofs.SendingLemmas.{new_loads}
use Rattle.sig_nodes.proofs.sending.new_tx.Goals as goal

pub returns-in-Ok : goal.returns-in-Ok
returns-in-Ok c = if_ok c.load_tx.result (λ n h. h c.args.store_id [] c.in-Ok.ensures (new_loads c.args.store_id)) c.load_tx.ensures
