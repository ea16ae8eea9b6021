use Rattle.sig_fact_laws.proofs.LeavesLemmas.{setting_up_leaves}
use Rattle.sig_fact_laws.proofs.laws.setting_up_leaves_what_is_owed.Goals as goal

pub returns : goal.returns
returns c = setting_up_leaves
