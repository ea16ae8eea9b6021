use Rattle.std.proofs.Common.{◌≡◌, ◌++◌, drop, map}
use Rattle.sig_calls.specs.Configuring.{confs_of}
use Rattle.sig_accounts.specs.Owings.{owing_in, stream_in}
use Rattle.sig_stream_calls.proofs.reading.confs_of.Given as goal

abbrev pub invariant-loop-account : goal.invariant-loop-account
invariant-loop-account l =
    confs_of l.client (map stream_in (map owing_in l.accounts))
    ≡ l.confs.items ++ confs_of l.client (map stream_in (map owing_in (drop l.account-index l.accounts)))
