use Rattle.sig_txroutes.proofs.AskLemmas.{requests_make_proper_calls}
use Rattle.sig_txroutes.proofs.laws.requests_make_proper_calls.Goals as goal

pub returns : goal.returns
returns c = requests_make_proper_calls
