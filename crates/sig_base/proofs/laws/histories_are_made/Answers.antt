use Rattle.sig_base.proofs.MadeLemmas.{histories_made}
use Rattle.sig_base.proofs.laws.histories_are_made.Goals as goal

pub returns-clause-new : goal.returns-clause-new
returns-clause-new c = λ store_id. record { whole = tt; tokens = tt }

pub returns-clause-later : goal.returns-clause-later
returns-clause-later c = histories_made
