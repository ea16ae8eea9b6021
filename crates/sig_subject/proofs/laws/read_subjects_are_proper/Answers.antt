use Rattle.sig_subject.proofs.ProperRead.{reads_proper}
use Rattle.sig_subject.proofs.laws.read_subjects_are_proper.Goals as goal

pub returns : goal.returns
returns c = reads_proper
