use Rattle.std.proofs.Common.{◌∙◌, ap, sym, List}
use Rattle.std.specs.List.{slice_get}
use Rattle.sig_accounts.specs.declared.debt.Debt.{Debt}
use Rattle.sig_accounts.proofs.ReportedLemmas.{find_numbered}
use Rattle.sig_accounts.proofs.account.Account.debt.Goals as goal

pub returns : goal.returns
returns c =
    c.first_of.ensures
    ∙ ap (λ (ds : List Debt). slice_get ds 0) c.owed_between.ensures.between
    ∙ sym (find_numbered c.args.number c.args.self.now.owing.owed)
