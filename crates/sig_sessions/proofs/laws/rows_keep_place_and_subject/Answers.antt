use Rattle.sig_sessions.proofs.Rows.{keeps_places}
use Rattle.sig_sessions.proofs.laws.rows_keep_place_and_subject.Goals as goal

pub returns : goal.returns
returns c = keeps_places
