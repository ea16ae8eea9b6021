use Rattle.std.proofs.Common.{◌≡◌, drop, map}
use Rattle.sig_accounts.specs.Owings.{owing_in, owing_named}
use Rattle.sig_accounts.proofs.accounts.account_named.Given as goal

abbrev pub invariant-loop-account : goal.invariant-loop-account
invariant-loop-account l =
    owing_named l.name (map owing_in l.accounts) ≡ owing_named l.name (map owing_in (drop l.account-index l.accounts))
