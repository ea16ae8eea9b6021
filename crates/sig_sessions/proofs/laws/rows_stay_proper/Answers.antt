use Rattle.sig_sessions.proofs.Rows.{keeps_proper}
use Rattle.sig_sessions.proofs.laws.rows_stay_proper.Goals as goal

pub returns : goal.returns
returns c = keeps_proper
