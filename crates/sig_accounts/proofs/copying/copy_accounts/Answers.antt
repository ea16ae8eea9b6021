use Rattle.std.proofs.Common.{◌∙◌, ap, map, arith}
use Rattle.sig_accounts.specs.Owings.{owing_in}
use Rattle.sig_accounts.proofs.SameLemmas.{copied_more}
use Rattle.sig_accounts.proofs.copying.copy_accounts.Goals as goal

pub loop-account-preserved : goal.loop-account-preserved
loop-account-preserved c =
    ap (map owing_in) c.in_ok-push.ensures.items
    ∙ copied_more owing_in c.args.accounts.now c.loop-account.copies.items c.loop-account.account-index c.in_ok-copy.copy c.account-item.result
    (omega arith) c.account-item.is c.loop-account.invariant c.in_ok-copy.ensures
