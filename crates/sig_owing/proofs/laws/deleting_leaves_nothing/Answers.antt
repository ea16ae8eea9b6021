use Rattle.sig_owing.proofs.OwedStepLemmas.{deleting_leaves}
use Rattle.sig_owing.proofs.laws.deleting_leaves_nothing.Goals as goal

pub returns : goal.returns
returns c = deleting_leaves
