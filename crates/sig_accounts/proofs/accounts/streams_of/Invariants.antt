use Rattle.std.proofs.Common.{◌≡◌, ◌+◌, ◌≤◌, drop, map}
use Rattle.sig_history.specs.Streams.{streams_of}
use Rattle.sig_accounts.specs.Owings.{owing_in, stream_in}
use Rattle.sig_accounts.proofs.accounts.streams_of.Given as goal

abbrev pub invariant-loop-account : goal.invariant-loop-account
invariant-loop-account l = record {
  so_far : streams_of l.client (map stream_in (map owing_in l.accounts)) ≡ l.count + streams_of l.client (map stream_in (map owing_in (drop l.account-index l.accounts)));
  few : l.count ≤ l.account-index;
}
