use Rattle.sig_history.proofs.ChangeLemmas.{unlisting_takes}
use Rattle.sig_owing.proofs.laws.unlisting_takes_off.Goals as goal

pub returns : goal.returns
returns c = unlisting_takes
