use Rattle.std.proofs.Common.{◌≡◌, List, drop, filter, nat_eq, subst, take}
use Rattle.indexmap.specs.IndexSet.{contains}
use Rattle.sig_accounts.specs.declared.debt.Debt.{Debt}
use Rattle.sig_accounts.specs.Debts.{is_left}
use Rattle.sig_accounts.proofs.DebtLemmas.{left_above, left_below}
use Rattle.sig_accounts.proofs.debts.Debts.settle.Goals as goal

pub settle_front-requires-clause-left : goal.settle_front-requires-clause-left
settle_front-requires-clause-left c =
    subst (λ (ds : List Debt). filter (is_left (contains nat_eq c.args.numbers.now)) (drop c.count_to-end.result ds) ≡ drop c.count_to-end.result ds) c.as_slice-debts.ensures
    (left_above (contains nat_eq c.args.numbers.now) c.largest.result c.count_to-end.result c.as_slice-debts.result.now c.largest.ensures c.count_to-end.ensures.above)

pub settle_back-requires-clause-left : goal.settle_back-requires-clause-left
settle_back-requires-clause-left c =
    subst (λ (ds : List Debt). filter (is_left (contains nat_eq c.args.numbers.now)) (take c.count_below-from.result ds) ≡ take c.count_below-from.result ds) c.as_slice-debts.ensures
    (left_below (contains nat_eq c.args.numbers.now) c.smallest.result c.count_below-from.result c.as_slice-debts.result.now c.smallest.ensures
    c.count_below-from.ensures.within c.count_below-from.ensures.below)
