use Rattle.sig_txroutes.proofs.AskLemmas.{clients_ask_for_themselves}
use Rattle.sig_txroutes.proofs.laws.clients_ask_for_themselves.Goals as goal

pub returns : goal.returns
returns c = clients_ask_for_themselves
