use Rattle.std.proofs.Common.{◌≡◌, ◌-◌, []}
use Rattle.sig_inbox.specs.Pairs.{has_pair}
use Rattle.sig_rxstate.specs.Parts.{pair}
use Rattle.sig_rxstate.specs.Lists.{with_more}
use Rattle.sig_rxstate.proofs.pairs.take_many.Given as goal

abbrev pub invariant-loop : goal.invariant-loop
invariant-loop l = with_more has_pair pair l.count [] l.initial.bytes ≡ with_more has_pair pair (l.count - l.counter) l.seen.pairs l.bytes
