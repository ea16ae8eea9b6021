use Rattle.sig_bearer_laws.proofs.Transmitters.{callers_are_apart}
use Rattle.sig_bearer_laws.proofs.laws.transmitters_callers_are_apart.Goals as goal

pub returns : goal.returns
returns c = callers_are_apart
