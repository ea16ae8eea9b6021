use Rattle.std.proofs.Common.{◌≡◌, ℕ, ◌≤◌, take, true, nat_eq}
use Rattle.std.specs.List.{list_any}
use Rattle.sig_accounts.proofs.debts.smallest.Given as goal

abbrev pub invariant-loop-number : goal.invariant-loop-number
invariant-loop-number l = (n : ℕ) → list_any (nat_eq n) (take l.number-index l.number-items) ≡ true → l.least ≤ n
