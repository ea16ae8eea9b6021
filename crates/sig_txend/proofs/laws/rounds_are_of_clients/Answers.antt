use Rattle.sig_txend.proofs.ClientLemmas.{rounds_are_of_clients}
use Rattle.sig_txend.proofs.laws.rounds_are_of_clients.Goals as goal

pub returns : goal.returns
returns c = rounds_are_of_clients
