use Rattle.sig_manager_laws.proofs.Heard.{streams_heard}
use Rattle.sig_manager_laws.proofs.laws.streams_are_heard.Goals as goal

pub returns : goal.returns
returns c = streams_heard
