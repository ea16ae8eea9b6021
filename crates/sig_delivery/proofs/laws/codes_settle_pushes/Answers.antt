use Rattle.sig_delivery.proofs.CodesBack.{settles_by_code}
use Rattle.sig_delivery.proofs.laws.codes_settle_pushes.Goals as goal

pub returns : goal.returns
returns c = settles_by_code
