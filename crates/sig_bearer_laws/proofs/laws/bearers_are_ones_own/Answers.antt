use Rattle.sig_bearer_laws.proofs.Receivers.{ones_own}
use Rattle.sig_bearer_laws.proofs.laws.bearers_are_ones_own.Goals as goal

pub returns : goal.returns
returns c = ones_own
