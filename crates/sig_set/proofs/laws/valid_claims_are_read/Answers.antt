use Rattle.sig_set.proofs.ValidRead.{valid_read}
use Rattle.sig_set.proofs.laws.valid_claims_are_read.Goals as goal

pub returns : goal.returns
returns c = valid_read
