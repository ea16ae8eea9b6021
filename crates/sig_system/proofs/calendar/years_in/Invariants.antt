use Rattle.std.proofs.Common.{◌≡◌, ◌+◌}
use Rattle.sig_system.specs.Calendar.{days_before_year}
use Rattle.sig_system.proofs.calendar.years_in.Given as goal

abbrev pub invariant-loop-count : goal.invariant-loop-count
invariant-loop-count l = days_before_year l.count + l.left ≡ l.days
