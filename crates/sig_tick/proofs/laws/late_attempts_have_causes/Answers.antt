use Rattle.sig_tick.proofs.LateLemmas.{late_have_causes}
use Rattle.sig_tick.proofs.laws.late_attempts_have_causes.Goals as goal

pub returns : goal.returns
returns c = late_have_causes
