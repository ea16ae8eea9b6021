use Rattle.sig_subject.proofs.WrittenBack.{reads_written}
use Rattle.sig_subject.proofs.laws.written_subjects_are_read.Goals as goal

pub returns : goal.returns
returns c = reads_written
