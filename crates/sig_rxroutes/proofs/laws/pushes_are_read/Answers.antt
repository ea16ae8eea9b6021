use Rattle.sig_rxroutes.proofs.RouteLemmas.{pushes_are_read}
use Rattle.sig_rxroutes.proofs.laws.pushes_are_read.Goals as goal

pub returns : goal.returns
returns c = pushes_are_read
