use Rattle.sig_script.proofs.ProperLines.{lines_are_proper}
use Rattle.sig_script.proofs.laws.lines_are_proper.Goals as goal

pub returns : goal.returns
returns c = lines_are_proper c.read_publications_are_proper.ensures c.wants_are_proper.ensures
