use Rattle.sig_set.proofs.ValidTokens.{valid_where_judged}
use Rattle.sig_set.proofs.laws.judged_tokens_are_valid.Goals as goal

pub returns : goal.returns
returns c = valid_where_judged
