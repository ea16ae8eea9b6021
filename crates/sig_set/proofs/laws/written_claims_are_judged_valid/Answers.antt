use Rattle.sig_set.proofs.JudgedValid.{judged_valid}
use Rattle.sig_set.proofs.laws.written_claims_are_judged_valid.Goals as goal

pub returns : goal.returns
returns c = judged_valid
