use Rattle.sig_round.proofs.HandedLemmas.{handed_have_endpoints}
use Rattle.sig_round.proofs.laws.handed_tokens_have_endpoints.Goals as goal

pub returns : goal.returns
returns c = handed_have_endpoints
