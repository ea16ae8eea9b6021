use Rattle.sig_manager.proofs.Falling.{list_bounds}
use Rattle.sig_manager.proofs.laws.lists_bound_requests.Goals as goal

pub returns : goal.returns
returns c = list_bounds
