use Rattle.sig_manager_laws.proofs.Heard.{confs_heard}
use Rattle.sig_manager_laws.proofs.laws.configurations_are_heard.Goals as goal

pub returns : goal.returns
returns c = confs_heard
