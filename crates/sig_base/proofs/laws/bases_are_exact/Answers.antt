use Rattle.sig_base.proofs.BaseLemmas.{bases_exact}
use Rattle.sig_base.proofs.laws.bases_are_exact.Goals as goal

pub returns : goal.returns
returns c = bases_exact
