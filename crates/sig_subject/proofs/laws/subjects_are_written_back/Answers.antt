use Rattle.sig_subject.proofs.WrittenBack.{written_back}
use Rattle.sig_subject.proofs.laws.subjects_are_written_back.Goals as goal

pub returns : goal.returns
returns c = written_back
