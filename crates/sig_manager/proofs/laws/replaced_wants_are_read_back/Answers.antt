use Rattle.sig_manager.proofs.Written.{replaced_read_back}
use Rattle.sig_manager.proofs.laws.replaced_wants_are_read_back.Goals as goal

pub returns : goal.returns
returns c = replaced_read_back
