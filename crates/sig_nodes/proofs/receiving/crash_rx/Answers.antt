use Rattle.sig_nodes.proofs.KeptLemmas.{if_ok}
use Rattle.sig_nodes.proofs.ReceivingLemmas.{crash_rests}
use Rattle.sig_nodes.proofs.receiving.crash_rx.Goals as goal

pub returns : goal.returns
returns c = if_ok c.load_rest.result (λ n h name texts at. h name texts (λ short. crash_rests c.args.rules name c.args.node texts at)) c.load_rest.ensures
