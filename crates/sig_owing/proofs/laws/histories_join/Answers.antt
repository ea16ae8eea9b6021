use Rattle.sig_history.proofs.JoinLemmas.{joined}
use Rattle.sig_owing.proofs.laws.histories_join.Goals as goal

pub returns : goal.returns
returns c = joined
