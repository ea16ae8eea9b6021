use Rattle.std.proofs.Common.{◌≡◌, map, take}
use Rattle.sig_history.specs.Facts.{is_told}
use Rattle.sig_accounts.specs.Owings.{owing_in, stream_in}
use Rattle.sig_accounts.proofs.told_streams.told_by.Given as goal

abbrev pub invariant-loop-account : goal.invariant-loop-account
invariant-loop-account l = l.marks.items ≡ map (is_told l.fact) (map stream_in (map owing_in (take l.account-index l.accounts)))
