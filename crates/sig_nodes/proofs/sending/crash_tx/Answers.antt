use Rattle.sig_nodes.proofs.KeptLemmas.{if_ok}
use Rattle.sig_nodes.proofs.SendingLemmas.{crash_rests}
use Rattle.sig_nodes.proofs.sending.crash_tx.Goals as goal

pub returns : goal.returns
returns c = if_ok c.load_rest.result (λ n h name facts at. h name facts (λ short. crash_rests c.args.rules name c.args.node facts at)) c.load_rest.ensures
