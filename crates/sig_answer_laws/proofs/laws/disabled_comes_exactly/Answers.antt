use Rattle.sig_answer_laws.proofs.ExactLemmas.{disabled_comes}
use Rattle.sig_answer_laws.proofs.laws.disabled_comes_exactly.Goals as goal

pub returns : goal.returns
returns c = disabled_comes
