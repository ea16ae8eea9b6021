use Rattle.sig_answer_laws.proofs.ExactLemmas.{not_found_comes}
use Rattle.sig_answer_laws.proofs.laws.not_found_comes_exactly.Goals as goal

pub returns : goal.returns
returns c = not_found_comes
