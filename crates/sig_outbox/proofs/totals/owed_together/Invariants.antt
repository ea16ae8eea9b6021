use Rattle.std.proofs.Common.{◌≡◌, ◌-◌, ◌^◌, length, min, take}
use Rattle.std.specs.List.{sum_by}
use Rattle.sig_accounts.specs.Owings.{Balance}
use Rattle.sig_outbox.proofs.totals.owed_together.Given as goal

abbrev pub invariant-loop-account : goal.invariant-loop-account
invariant-loop-account l =
    l.owed ≡ min (sum_by (λ (b : Balance). length b.owing.owed) (take l.account-index l.accounts)) (2 ^ 64 - 1)
