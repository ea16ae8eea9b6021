use Rattle.sig_owing.proofs.OwedStepLemmas.{disabling_leaves}
use Rattle.sig_owing.proofs.laws.disabling_leaves_its_own_notice.Goals as goal

pub returns : goal.returns
returns c = disabling_leaves
