use Rattle.std.proofs.Common.{◌≡◌, take}
use Rattle.sig_accounts.specs.Reported.{reported_in}
use Rattle.sig_accounts.proofs.account.Account.reported.Given as goal

abbrev pub invariant-loop-item : goal.invariant-loop-item
invariant-loop-item l = l.refusals.items ≡ reported_in l.self.owing.stream.conf.stream l.self.owing.owed (take l.item-index l.items)
