use Rattle.std.proofs.Common.{◌∙◌, ap, sym, Ok, inr}
use Rattle.sig_terms.specs.declared.answer.Answer.TheVariants.{Long}
use Rattle.sig_history.specs.Facts.{made_by}
use Rattle.sig_ledger.specs.Books.{sum_in}
use Rattle.sig_token_calls.proofs.MakingLemmas.{only_reply, told_long, told_made, told_past}
use Rattle.sig_token_calls.proofs.making.make_told.Goals as goal

pub returns-then-is_long-clause-answers : goal.returns-then-is_long-clause-answers
returns-then-is_long-clause-answers c =
    told_long (made_by (sum_in c.args.ledger.now.books).parts c.args.addressed.fact) c.args.answer c.args.addressed.fact c.in-Ok.size c.in-Ok.ensures (sym c.is_long.ensures ∙ c.if-is_long.true)
    ∙ ap Ok (sym (only_reply c.only.result (Long c.in-Ok.size) c.only.ensures.answer c.only.ensures.change))

pub returns-then-goes_past-clause-answers : goal.returns-then-goes_past-clause-answers
returns-then-goes_past-clause-answers c =
    inr (told_past (made_by (sum_in c.args.ledger.now.books).parts c.args.addressed.fact) c.args.answer c.args.addressed.fact c.in-Ok.size c.in-Ok.ensures (sym c.is_long.ensures ∙ c.if-is_long.false)
    (sym c.goes_past.ensures ∙ c.if-goes_past.true))

pub returns-clause-answers : goal.returns-clause-answers
returns-clause-answers c =
    told_made (made_by (sum_in c.args.ledger.now.books).parts c.args.addressed.fact) c.args.answer c.args.addressed.fact c.in-Ok.size c.in-Ok.ensures (sym c.is_long.ensures ∙ c.if-is_long.false)
    (sym c.goes_past.ensures ∙ c.if-goes_past.false)
    ∙ ap Ok (sym c.in_ok-step.ensures.reply)
