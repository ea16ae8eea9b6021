use Rattle.sig_manager.proofs.Falling.{step_falls}
use Rattle.sig_manager.proofs.laws.each_step_falls.Goals as goal

pub returns : goal.returns
returns c = step_falls
