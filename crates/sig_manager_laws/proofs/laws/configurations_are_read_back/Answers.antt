use Rattle.sig_manager_laws.proofs.ReadBack.{read_back}
use Rattle.sig_manager_laws.proofs.laws.configurations_are_read_back.Goals as goal

pub returns : goal.returns
returns c = read_back
