use Rattle.std.proofs.Common.{◌∙◌, ap, sym, ◌==◌, List, length, not}
use Rattle.std.specs.List.{list_any}
use Rattle.sig_accounts.specs.declared.debt.Debt.{Debt}
use Rattle.sig_accounts.specs.Owings.{Balance}
use Rattle.sig_accounts.proofs.DebtLemmas.{found_numbered}
use Rattle.sig_accounts.proofs.account.Account.owes.Goals as goal

pub returns : goal.returns
returns c =
    ap not (c.is_empty.ensures ∙ ap (λ (ds : List Debt). length ds == 0) c.numbered.ensures)
    ∙ sym (found_numbered c.args.number c.self.inside.owed.debts)
    ∙ ap (λ (b : Balance). list_any (λ (d : Debt). d.number == c.args.number) b.owing.owed) c.self.view_is
