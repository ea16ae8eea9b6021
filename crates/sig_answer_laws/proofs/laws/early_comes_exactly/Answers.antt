use Rattle.sig_answer_laws.proofs.ExactLemmas.{early_comes}
use Rattle.sig_answer_laws.proofs.laws.early_comes_exactly.Goals as goal

pub returns : goal.returns
returns c = early_comes
