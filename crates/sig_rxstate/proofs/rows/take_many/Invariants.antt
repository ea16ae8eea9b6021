use Rattle.std.proofs.Common.{◌≡◌, ◌-◌, []}
use Rattle.sig_rxstate.specs.Parts.{has_subject, row}
use Rattle.sig_rxstate.specs.Lists.{with_more}
use Rattle.sig_rxstate.proofs.rows.take_many.Given as goal

abbrev pub invariant-loop : goal.invariant-loop
invariant-loop l = with_more has_subject row l.count [] l.initial.bytes ≡ with_more has_subject row (l.count - l.counter) l.table.rows l.bytes
