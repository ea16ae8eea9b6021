use Rattle.sig_delivery.proofs.ByNames.{ordered_errors}
use Rattle.sig_delivery.proofs.laws.errors_are_ordered.Goals as goal

pub returns : goal.returns
returns c = ordered_errors
