use Rattle.sig_fact_laws.proofs.DueLemmas.{tokens_due}
use Rattle.sig_fact_laws.proofs.laws.tokens_are_made_where_due.Goals as goal

pub returns : goal.returns
returns c = tokens_due
