use Rattle.sig_bounds.proofs.WantSizes.{wants_proper}
use Rattle.sig_bounds.proofs.laws.wants_are_proper.Goals as goal

pub returns : goal.returns
returns c = wants_proper
