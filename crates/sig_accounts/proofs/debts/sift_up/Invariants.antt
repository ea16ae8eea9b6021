use Rattle.std.proofs.Common.{◌-◌, ◌≡◌, ◌≤◌, drop, filter, length, nat_eq, take}
use Rattle.indexmap.specs.IndexSet.{contains}
use Rattle.sig_accounts.specs.Debts.{is_left}
use Rattle.sig_accounts.proofs.debts.sift_up.Given as goal

abbrev pub invariant-loop-read : goal.invariant-loop-read
invariant-loop-read l = record {
  from : l.from ≤ l.read;
  order : l.read ≤ l.kept;
  within : l.kept ≤ length l.debts;
  front : take l.read l.debts ≡ take l.read l.initial.debts;
  left : drop l.kept l.debts ≡ filter (is_left (contains nat_eq l.numbers)) (drop l.read l.initial.debts);
}

abbrev pub decreases-loop-read : goal.decreases-loop-read
decreases-loop-read l = l.read - l.from
