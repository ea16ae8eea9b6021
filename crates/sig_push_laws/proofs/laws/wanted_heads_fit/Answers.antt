use Rattle.sig_push_laws.proofs.ReadLemmas.{heads_fit}
use Rattle.sig_push_laws.proofs.laws.wanted_heads_fit.Goals as goal

pub returns : goal.returns
returns c = heads_fit
