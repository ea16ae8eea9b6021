use Rattle.sig_law.proofs.Growth.{only_grows}
use Rattle.sig_law.proofs.laws.histories_only_grow.Goals as goal

pub returns : goal.returns
returns c = only_grows
