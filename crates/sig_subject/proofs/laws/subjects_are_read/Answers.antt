use Rattle.sig_subject.proofs.SubjectReading.{reads_subjects}
use Rattle.sig_subject.proofs.laws.subjects_are_read.Goals as goal

pub returns : goal.returns
returns c = reads_subjects
