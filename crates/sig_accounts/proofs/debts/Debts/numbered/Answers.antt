use Rattle.std.proofs.Common.{List, subst, sym}
use Rattle.sig_accounts.specs.declared.debt.Debt.{Debt}
use Rattle.sig_accounts.specs.Debts.{Rises, is_to}
use Rattle.sig_accounts.proofs.DebtLemmas.{rises_filter}
use Rattle.sig_accounts.proofs.debts.Debts.numbered.Goals as goal

pub count_below-requires : goal.count_below-requires
count_below-requires c =
    subst (λ (ds : List Debt). Rises 0 ds) (sym c.count_to.ensures.low)
    (rises_filter (is_to c.args.most) 0 c.as_slice-debts.result.now (subst (λ (ds : List Debt). Rises 0 ds) (sym c.as_slice-debts.ensures) c.requires))
