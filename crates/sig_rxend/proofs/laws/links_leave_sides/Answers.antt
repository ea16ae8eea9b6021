use Rattle.sig_rxend.proofs.SideLemmas.{side_stays}
use Rattle.sig_rxend.proofs.laws.links_leave_sides.Goals as goal

pub returns : goal.returns
returns c = side_stays
