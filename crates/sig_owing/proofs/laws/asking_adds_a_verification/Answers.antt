use Rattle.sig_owing.proofs.OwedStepLemmas.{asking_adds}
use Rattle.sig_owing.proofs.laws.asking_adds_a_verification.Goals as goal

pub returns : goal.returns
returns c = asking_adds
