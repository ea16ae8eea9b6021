use Rattle.sig_owing.proofs.OthersLemmas.{facts_leave_others}
use Rattle.sig_owing.proofs.laws.facts_leave_other_streams.Goals as goal

pub returns : goal.returns
returns c = facts_leave_others
