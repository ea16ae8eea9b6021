use Rattle.sig_subject.proofs.ProperRead.{writes_canonical}
use Rattle.sig_subject.proofs.laws.proper_subjects_are_canonical.Goals as goal

pub returns : goal.returns
returns c = writes_canonical
