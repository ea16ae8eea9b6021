use Rattle.sig_rxstate.proofs.States.{states_exact}
use Rattle.sig_rxstate.proofs.laws.states_are_exact.Goals as goal

pub returns : goal.returns
returns c = states_exact
