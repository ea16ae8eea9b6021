use Rattle.sig_fields.proofs.Exact.{agrees_exact}
use Rattle.sig_entry.specs.Facts as facts
use Rattle.sig_entry.specs.Proper.{IsProperFact}
use Rattle.sig_entry.proofs.FactLemmas.{facts_agree}
use Rattle.sig_entry.proofs.laws.facts_are_exact.Goals as goal

pub returns : goal.returns
returns c = agrees_exact IsProperFact facts.spelling_of facts.read_fact facts_agree
