use Rattle.std.proofs.Common.{◌≡◌, false}
use Rattle.sig_bench.proofs.store.append_records.Given as goal

abbrev pub invariant-loop : goal.invariant-loop
invariant-loop g l = l.journal.broken ≡ false
