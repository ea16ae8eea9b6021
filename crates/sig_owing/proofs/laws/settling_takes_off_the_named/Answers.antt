use Rattle.sig_owing.proofs.OwedStepLemmas.{settling_takes}
use Rattle.sig_owing.proofs.laws.settling_takes_off_the_named.Goals as goal

pub returns : goal.returns
returns c = settling_takes
