use Rattle.sig_json.proofs.Spelled.{spelled_is_canonical}
use Rattle.sig_json.proofs.laws.spelled_is_canonical.Goals as goal

pub returns : goal.returns
returns c = spelled_is_canonical
