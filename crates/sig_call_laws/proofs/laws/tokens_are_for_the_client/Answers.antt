use Rattle.sig_call_laws.proofs.AudienceLemmas.{tokens_for_client}
use Rattle.sig_call_laws.proofs.laws.tokens_are_for_the_client.Goals as goal

pub returns : goal.returns
returns c = tokens_for_client
