use Rattle.sig_answer_laws.proofs.ExactLemmas.{long_comes}
use Rattle.sig_answer_laws.proofs.laws.long_comes_exactly.Goals as goal

pub returns : goal.returns
returns c = long_comes
