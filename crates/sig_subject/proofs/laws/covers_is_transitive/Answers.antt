use Rattle.sig_subject.proofs.Covering.{covers_on}
use Rattle.sig_subject.proofs.laws.covers_is_transitive.Goals as goal

pub returns : goal.returns
returns c = covers_on
