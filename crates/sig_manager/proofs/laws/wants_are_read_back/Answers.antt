use Rattle.sig_manager.proofs.Written.{read_back}
use Rattle.sig_manager.proofs.laws.wants_are_read_back.Goals as goal

pub returns : goal.returns
returns c = read_back
