use Rattle.std.proofs.Common.{◌≡◌, map, take}
use Rattle.sig_accounts.specs.Owings.{owing_in}
use Rattle.sig_accounts.proofs.copying.copy_accounts.Given as goal

abbrev pub invariant-loop-account : goal.invariant-loop-account
invariant-loop-account l = map owing_in l.copies.items ≡ map owing_in (take l.account-index l.accounts)
