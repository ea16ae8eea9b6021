use Rattle.sig_json.proofs.Spelled.{spells_in_order}
use Rattle.sig_json.proofs.laws.spelled_is_in_order.Goals as goal

pub returns : goal.returns
returns c = spells_in_order
