use Rattle.std.proofs.Common.{◌∙◌, sym, true≢false}
use Rattle.sig_accounts.proofs.AskingLemmas.{undue}
use Rattle.sig_accounts.proofs.told_streams.is_told_of.Goals as goal
use Rattle.sig_accounts.proofs.told_streams.is_told_of.Goals.{then-heard, else-heard}

pub returns-else-asked : goal.returns-else-asked
returns-else-asked c =
    elim c.if-heard.branch [
      | then-heard w ↦ absurd (true≢false (sym w.if-heard.true ∙ sym w.asked-is ∙ c.if-asked.false))
      | else-heard w ↦
          sym (undue c.args.news.now c.args.account.now.owing.stream c.args.heard c.requires.simple c.requires.heard w.if-heard.false
          (sym w.hears_all-asked.ensures ∙ sym w.asked-is ∙ c.if-asked.false))
    ]
