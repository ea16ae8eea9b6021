use Rattle.std.proofs.Common.{List, nat_eq, subst, sym}
use Rattle.indexmap.specs.IndexSet.{contains}
use Rattle.sig_accounts.specs.declared.debt.Debt.{Debt}
use Rattle.sig_accounts.specs.Debts.{AreNumbered, is_left}
use Rattle.sig_accounts.proofs.DebtLemmas.{left_numbered}
use Rattle.sig_accounts.proofs.account.Account.settle.Goals as goal

pub invariant_of-self : goal.invariant_of-self
invariant_of-self c = (
  c.self.invariant.0,
  subst (λ (ds : List Debt). AreNumbered c.self.inside.made ds) (sym c.settle.ensures)
      (left_numbered (is_left (contains nat_eq c.args.numbers.now)) c.self.inside.made c.self.inside.owed.debts c.self.invariant.1),
)
