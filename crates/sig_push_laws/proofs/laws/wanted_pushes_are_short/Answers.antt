use Rattle.sig_push_laws.proofs.SafeLemmas.{pushes_short}
use Rattle.sig_push_laws.proofs.laws.wanted_pushes_are_short.Goals as goal

pub returns : goal.returns
returns c = pushes_short
