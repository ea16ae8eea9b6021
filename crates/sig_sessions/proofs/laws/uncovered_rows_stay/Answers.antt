use Rattle.sig_sessions.proofs.Rows.{leaves_uncovered}
use Rattle.sig_sessions.proofs.laws.uncovered_rows_stay.Goals as goal

pub returns : goal.returns
returns c = leaves_uncovered
