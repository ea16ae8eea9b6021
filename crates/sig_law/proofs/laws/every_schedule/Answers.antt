use Rattle.sig_law.proofs.Schedules.{every_schedule}
use Rattle.sig_law.proofs.laws.every_schedule.Goals as goal

pub returns : goal.returns
returns c = every_schedule
