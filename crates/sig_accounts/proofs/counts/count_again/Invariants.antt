use Rattle.std.proofs.Common.{◌≡◌, ◌++◌, take, drop}
use Rattle.sig_history.specs.Streams.{created_by, count_one}
use Rattle.sig_accounts.proofs.counts.count_again.Given as goal

abbrev pub invariant-loop-counted : goal.invariant-loop-counted
invariant-loop-counted l = record {
  same : l.created ≡ l.fn.created;
  left : created_by l.client l.fn.created ≡ created_by l.client (drop l.counted-index l.fn.created);
  rest : count_one l.client l.fn.created ≡ take l.counted-index l.fn.created ++ count_one l.client (drop l.counted-index l.fn.created);
}
