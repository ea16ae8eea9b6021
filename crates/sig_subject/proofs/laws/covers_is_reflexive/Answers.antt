use Rattle.sig_subject.proofs.Covering.{covers_itself}
use Rattle.sig_subject.proofs.laws.covers_is_reflexive.Goals as goal

pub returns : goal.returns
returns c = covers_itself
