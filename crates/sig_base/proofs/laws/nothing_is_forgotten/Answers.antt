use Rattle.sig_base.proofs.SumLemmas.{nothing_forgotten}
use Rattle.sig_base.proofs.laws.nothing_is_forgotten.Goals as goal

pub returns : goal.returns
returns c = nothing_forgotten
