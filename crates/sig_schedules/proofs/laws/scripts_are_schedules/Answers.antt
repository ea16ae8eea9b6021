use Rattle.sig_schedules.proofs.ScriptEvents as events
use Rattle.sig_schedules.proofs.laws.scripts_are_schedules.Goals as goal

pub returns : goal.returns
returns c = events.scripts_are_schedules c.lines_are_proper.ensures
