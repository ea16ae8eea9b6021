use Rattle.sig_rxroutes.proofs.RouteLemmas.{routes_exactly}
use Rattle.sig_rxroutes.proofs.laws.routes_are_exact.Goals as goal

pub returns : goal.returns
returns c = routes_exactly
