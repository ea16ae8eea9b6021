use Rattle.sig_history.proofs.ChangeLemmas.{status_is_set}
use Rattle.sig_owing.proofs.laws.status_is_set.Goals as goal

pub returns : goal.returns
returns c = status_is_set
