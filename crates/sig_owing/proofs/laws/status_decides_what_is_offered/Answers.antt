use Rattle.sig_history.proofs.ChangeLemmas.{status_decides}
use Rattle.sig_owing.proofs.laws.status_decides_what_is_offered.Goals as goal

pub returns : goal.returns
returns c = status_decides
