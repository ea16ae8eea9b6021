use Rattle.sig_txroutes.proofs.AskLemmas.{bearers_decide}
use Rattle.sig_txroutes.proofs.laws.bearers_decide.Goals as goal

pub returns : goal.returns
returns c = bearers_decide
