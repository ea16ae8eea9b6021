use Rattle.sig_set.proofs.ValidTokens.{under_their_algorithm}
use Rattle.sig_set.proofs.laws.judged_tokens_are_signed_by_their_algorithm.Goals as goal

pub returns : goal.returns
returns c = under_their_algorithm
