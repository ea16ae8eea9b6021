use Rattle.sig_call_laws.proofs.AuthorityLemmas.{own_changed}
use Rattle.sig_call_laws.proofs.laws.clients_change_their_own.Goals as goal

pub returns : goal.returns
returns c = own_changed
