use Rattle.sig_bearer_laws.proofs.Receivers.{callers_are_apart}
use Rattle.sig_bearer_laws.proofs.laws.receivers_callers_are_apart.Goals as goal

pub returns : goal.returns
returns c = callers_are_apart
