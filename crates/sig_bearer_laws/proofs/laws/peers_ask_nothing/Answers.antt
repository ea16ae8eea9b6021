use Rattle.sig_bearer_laws.proofs.Receivers.{peers_nothing}
use Rattle.sig_bearer_laws.proofs.laws.peers_ask_nothing.Goals as goal

pub returns : goal.returns
returns c = peers_nothing
