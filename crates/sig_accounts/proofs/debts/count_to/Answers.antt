use Rattle.std.proofs.Common.{leb, rules}
use Rattle.std.proofs.lemmas.Bool.{leb-false}
use Rattle.std.proofs.lemmas.List.Sorted.{IsPartitionPoint-from_clause, IsPartitionedBy-leb}
use Rattle.sig_accounts.specs.declared.debt.Debt.{Debt}
use Rattle.sig_accounts.proofs.DebtLemmas.{parted_take, rises_sorted}
use Rattle.sig_accounts.proofs.debts.count_to.Goals as goal

pub returns-clause-low : goal.returns-clause-low
returns-clause-low c =
    let parted = IsPartitionedBy-leb (λ (d : Debt). d.number) _ c.args.number (rises_sorted 0 _ c.requires) in
    let point = IsPartitionPoint-from_clause (λ (d : Debt). leb d.number c.args.number) _ _ c.partition_point.ensures.partitioned parted (λ a r q k. search rules) in
    parted_take (λ (d : Debt). leb d.number c.args.number) c.args.debts.now c.partition_point.result c.partition_point.ensures.bound point.0 point.1

pub returns-clause-above : goal.returns-clause-above
returns-clause-above c =
    let parted = IsPartitionedBy-leb (λ (d : Debt). d.number) _ c.args.number (rises_sorted 0 _ c.requires) in
    let point = IsPartitionPoint-from_clause (λ (d : Debt). leb d.number c.args.number) _ _ c.partition_point.ensures.partitioned parted (λ a r q k. search rules) in
    λ k d low h. leb-false _ _ (point.1 k d low h)
