use Rattle.sig_subject.proofs.Parts.{proper_parts_rise}
use Rattle.sig_subject.proofs.laws.proper_parts_rise.Goals as goal

pub returns : goal.returns
returns c = proper_parts_rise
