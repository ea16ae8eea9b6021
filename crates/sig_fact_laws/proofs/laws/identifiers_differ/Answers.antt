use Rattle.sig_fact_laws.proofs.IdentifierLemmas.{identifiers_differ}
use Rattle.sig_fact_laws.proofs.laws.identifiers_differ.Goals as goal

pub returns : goal.returns
returns c = identifiers_differ
