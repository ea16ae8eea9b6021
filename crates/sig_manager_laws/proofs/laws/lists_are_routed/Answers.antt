use Rattle.sig_manager_laws.proofs.Routed.{lists_routed}
use Rattle.sig_manager_laws.proofs.laws.lists_are_routed.Goals as goal

pub returns : goal.returns
returns c = lists_routed
