use Rattle.sig_claim_laws.proofs.ClaimLemmas.{tokens_differ}
use Rattle.sig_claim_laws.proofs.laws.made_tokens_differ.Goals as goal

pub returns : goal.returns
returns c = tokens_differ
