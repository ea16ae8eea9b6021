use Rattle.std.proofs.Common.{◌≡◌, drop, map}
use Rattle.sig_accounts.specs.Owings.{client_owing, owing_in}
use Rattle.sig_accounts.proofs.accounts.client_account.Given as goal

abbrev pub invariant-loop-account : goal.invariant-loop-account
invariant-loop-account l =
    client_owing l.client l.name (map owing_in l.accounts) ≡ client_owing l.client l.name (map owing_in (drop l.account-index l.accounts))
