use Rattle.sig_fact_laws.proofs.LeavesLemmas.{carrying_leaves}
use Rattle.sig_fact_laws.proofs.laws.carrying_leaves_the_setup.Goals as goal

pub returns : goal.returns
returns c = carrying_leaves
