use Rattle.std.proofs.Common.{◌≡◌, ◌+◌, ◌≤◌, drop}
use Rattle.sig_txroutes.specs.Metrics.{count_of}
use Rattle.sig_txroutes.proofs.metrics.count_of.Given as goal

abbrev pub invariant-loop-standing : goal.invariant-loop-standing
invariant-loop-standing l = record {
  so_far : count_of l.status l.standings ≡ l.count + count_of l.status (drop l.standing-index l.standings);
  few : l.count ≤ l.standing-index;
}
