use Rattle.sig_subject.proofs.ProperRead.{texts_identify}
use Rattle.sig_subject.proofs.laws.texts_identify_proper_subjects.Goals as goal

pub returns : goal.returns
returns c = texts_identify
