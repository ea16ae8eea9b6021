use Rattle.sig_history.proofs.ChangeLemmas.{configuring_sets}
use Rattle.sig_owing.proofs.laws.configuring_sets_what_it_says.Goals as goal

pub returns : goal.returns
returns c = configuring_sets
