use Rattle.std.proofs.Common.{ltb, rules}
use Rattle.std.proofs.lemmas.Bool.{ltb-true}
use Rattle.std.proofs.lemmas.List.Sorted.{IsPartitionPoint-from_clause, IsPartitionedBy-ltb}
use Rattle.sig_accounts.specs.declared.debt.Debt.{Debt}
use Rattle.sig_accounts.specs.Debts.{is_from}
use Rattle.sig_accounts.proofs.DebtLemmas.{not_below, parted_drop, rises_sorted}
use Rattle.sig_accounts.proofs.debts.count_below.Goals as goal

pub returns-clause-below : goal.returns-clause-below
returns-clause-below c =
    let parted = IsPartitionedBy-ltb (λ (d : Debt). d.number) _ c.args.number (rises_sorted 0 _ c.requires) in
    let point = IsPartitionPoint-from_clause (λ (d : Debt). ltb d.number c.args.number) _ _ c.partition_point.ensures.partitioned parted (λ a r q k. search rules) in
    λ k d low h. ltb-true _ _ (point.0 k d low h)

pub returns-clause-rest : goal.returns-clause-rest
returns-clause-rest c =
    let parted = IsPartitionedBy-ltb (λ (d : Debt). d.number) _ c.args.number (rises_sorted 0 _ c.requires) in
    let point = IsPartitionPoint-from_clause (λ (d : Debt). ltb d.number c.args.number) _ _ c.partition_point.ensures.partitioned parted (λ a r q k. search rules) in
    parted_drop (λ (d : Debt). ltb d.number c.args.number) (is_from c.args.number) c.args.debts.now c.partition_point.result
    (λ d. not_below c.args.number d.number) c.partition_point.ensures.bound point.0 point.1
