use Rattle.sig_claim_laws.proofs.ClaimLemmas.{claims_stand}
use Rattle.sig_claim_laws.proofs.laws.acknowledged_stand_with_their_claims.Goals as goal

pub returns : goal.returns
returns c = claims_stand
