use Rattle.sig_bearer_laws.proofs.Transmitters.{operators_for_themselves}
use Rattle.sig_bearer_laws.proofs.laws.operators_ask_for_themselves.Goals as goal

pub returns : goal.returns
returns c = operators_for_themselves
