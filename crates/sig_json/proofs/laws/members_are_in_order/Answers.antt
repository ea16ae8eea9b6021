use Rattle.sig_json.proofs.Spelled.{has_in_order}
use Rattle.sig_json.proofs.laws.members_are_in_order.Goals as goal

pub returns : goal.returns
returns c = has_in_order
