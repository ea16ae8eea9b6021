use Rattle.sig_answer_laws.proofs.ExactLemmas.{too_many_comes}
use Rattle.sig_answer_laws.proofs.laws.too_many_comes_exactly.Goals as goal

pub returns : goal.returns
returns c = too_many_comes
