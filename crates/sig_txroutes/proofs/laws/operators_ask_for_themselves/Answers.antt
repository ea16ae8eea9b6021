use Rattle.sig_txroutes.proofs.AskLemmas.{operators_ask_for_themselves}
use Rattle.sig_txroutes.proofs.laws.operators_ask_for_themselves.Goals as goal

pub returns : goal.returns
returns c = operators_ask_for_themselves
