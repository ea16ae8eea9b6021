use Rattle.sig_sessions.proofs.Rows.{keeps_distinct}
use Rattle.sig_sessions.proofs.laws.subjects_stay_distinct.Goals as goal

pub returns : goal.returns
returns c = keeps_distinct
