use Rattle.std.proofs.Common.{◌≡◌, ◌++◌, drop, map}
use Rattle.sig_accounts.specs.Owings.{owing_in}
use Rattle.sig_stream_calls.specs.Standings.{standing_in}
use Rattle.sig_stream_calls.proofs.overseeing.standings_of.Given as goal

abbrev pub invariant-loop-account : goal.invariant-loop-account
invariant-loop-account l =
    map standing_in (map owing_in l.accounts)
    ≡ l.standings.items ++ map standing_in (map owing_in (drop l.account-index l.accounts))
