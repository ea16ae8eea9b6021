use Rattle.sig_subject.proofs.Covering.{matches_both_ways}
use Rattle.sig_subject.proofs.laws.matches_is_symmetric.Goals as goal

pub returns : goal.returns
returns c = matches_both_ways
