use Rattle.sig_sessions.proofs.Updates.{updated_set}
use Rattle.sig_sessions.proofs.changing.update_row.Goals as goal

pub returns-clause-rows : goal.returns-clause-rows
returns-clause-rows c = updated_set c.args.update c.args.update.place c.index-rows-place.result c.change.new.self c.args.rows.now c.requires c.change.ensures
