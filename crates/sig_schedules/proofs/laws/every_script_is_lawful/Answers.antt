use Rattle.sig_schedules.proofs.ProperLines as lines
use Rattle.sig_schedules.proofs.laws.every_script_is_lawful.Goals as goal

pub returns : goal.returns
returns c = lines.every_script_is_lawful c.every_schedule.ensures c.lines_are_proper.ensures
