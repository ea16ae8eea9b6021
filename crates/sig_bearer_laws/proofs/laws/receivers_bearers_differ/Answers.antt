use Rattle.sig_bearer_laws.proofs.Receivers.{bearers_differ}
use Rattle.sig_bearer_laws.proofs.laws.receivers_bearers_differ.Goals as goal

pub returns : goal.returns
returns c = bearers_differ
