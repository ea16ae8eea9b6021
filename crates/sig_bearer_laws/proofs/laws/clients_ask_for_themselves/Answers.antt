use Rattle.sig_bearer_laws.proofs.Transmitters.{clients_for_themselves}
use Rattle.sig_bearer_laws.proofs.laws.clients_ask_for_themselves.Goals as goal

pub returns : goal.returns
returns c = clients_for_themselves
