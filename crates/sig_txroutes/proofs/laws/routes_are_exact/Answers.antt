use Rattle.sig_txroutes.proofs.AskLemmas.{routes_exactly}
use Rattle.sig_txroutes.proofs.laws.routes_are_exact.Goals as goal

pub returns : goal.returns
returns c = routes_exactly
