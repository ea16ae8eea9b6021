use Rattle.sig_set.proofs.ProperClaims.{proper_by_parts}
use Rattle.sig_set.proofs.laws.claims_of_proper_parts_are_proper.Goals as goal

pub returns : goal.returns
returns c = proper_by_parts
