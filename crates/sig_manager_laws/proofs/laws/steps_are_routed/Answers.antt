use Rattle.sig_manager_laws.proofs.Routed.{steps_routed}
use Rattle.sig_manager_laws.proofs.laws.steps_are_routed.Goals as goal

pub returns : goal.returns
returns c = steps_routed
