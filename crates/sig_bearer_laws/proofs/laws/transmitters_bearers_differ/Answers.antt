use Rattle.sig_bearer_laws.proofs.Transmitters.{bearers_differ}
use Rattle.sig_bearer_laws.proofs.laws.transmitters_bearers_differ.Goals as goal

pub returns : goal.returns
returns c = bearers_differ
