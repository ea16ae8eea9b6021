use Rattle.sig_owing.proofs.LeftLemmas.{owes_left}
use Rattle.sig_owing.proofs.laws.owed_is_what_no_later_fact_takes_off.Goals as goal

pub returns : goal.returns
returns c = owes_left
