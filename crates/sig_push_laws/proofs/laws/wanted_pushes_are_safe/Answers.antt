use Rattle.sig_push_laws.proofs.SafeLemmas.{pushes_safe}
use Rattle.sig_push_laws.proofs.laws.wanted_pushes_are_safe.Goals as goal

pub returns : goal.returns
returns c = pushes_safe
