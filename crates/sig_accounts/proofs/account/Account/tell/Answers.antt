use Rattle.std.proofs.Common.{◌+◌, List, refl, subst, sym}
use Rattle.sig_accounts.specs.declared.debt.Debt.{Debt}
use Rattle.sig_accounts.specs.Debts.{AreNumbered}
use Rattle.sig_accounts.proofs.DebtLemmas.{next_numbered}
use Rattle.sig_accounts.proofs.account.Account.tell.Goals as goal

pub invariant_of-self : goal.invariant_of-self
invariant_of-self c = (
  c.self.invariant.0,
  subst (λ (ds : List Debt). AreNumbered (c.self.inside.made + 1) ds) (sym c.push.ensures)
      (next_numbered c.self.inside.made (c.self.inside.made + 1) c.self.inside.owed.debts _ c.self.invariant.1 refl refl),
)
