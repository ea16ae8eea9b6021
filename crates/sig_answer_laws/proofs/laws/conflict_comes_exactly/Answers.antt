use Rattle.sig_answer_laws.proofs.ExactLemmas.{conflict_comes}
use Rattle.sig_answer_laws.proofs.laws.conflict_comes_exactly.Goals as goal

pub returns : goal.returns
returns c = conflict_comes
