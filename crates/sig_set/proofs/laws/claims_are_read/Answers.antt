use Rattle.sig_set.proofs.ReadsClaims.{reads_claims}
use Rattle.sig_set.proofs.laws.claims_are_read.Goals as goal

pub returns : goal.returns
returns c = reads_claims
