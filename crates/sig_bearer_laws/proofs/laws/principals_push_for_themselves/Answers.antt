use Rattle.sig_bearer_laws.proofs.Receivers.{principals_for_themselves}
use Rattle.sig_bearer_laws.proofs.laws.principals_push_for_themselves.Goals as goal

pub returns : goal.returns
returns c = principals_for_themselves
