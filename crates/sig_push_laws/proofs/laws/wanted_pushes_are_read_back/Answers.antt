use Rattle.sig_push_laws.proofs.ReadLemmas.{pushes_read_back}
use Rattle.sig_push_laws.proofs.laws.wanted_pushes_are_read_back.Goals as goal

pub returns : goal.returns
returns c = pushes_read_back
