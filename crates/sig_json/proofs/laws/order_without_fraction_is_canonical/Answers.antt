use Rattle.sig_json.proofs.Spelled.{order_is_canonical}
use Rattle.sig_json.proofs.laws.order_without_fraction_is_canonical.Goals as goal

pub returns : goal.returns
returns c = order_is_canonical
