use Rattle.sig_isolation.proofs.HistoryLemmas.{parts_isolated}
use Rattle.sig_isolation.proofs.laws.clients_are_isolated.Goals as goal

pub returns : goal.returns
returns c = parts_isolated
