use Rattle.sig_owing.proofs.OwedStepLemmas.{pausing_keeps}
use Rattle.sig_owing.proofs.laws.pausing_keeps_what_is_owed.Goals as goal

pub returns : goal.returns
returns c = pausing_keeps
