use Rattle.sig_rxroutes.proofs.ReplyLemmas.{settles_pushes}
use Rattle.sig_rxroutes.proofs.laws.responses_settle_pushes.Goals as goal

pub returns : goal.returns
returns c = settles_pushes
