use Rattle.std.proofs.Common.{◌∙◌, ap, subst, Some}
use Rattle.sig_json.specs.Answers.{Answers, result_map}
use Rattle.sig_terms.specs.declared.answer.Answer.{Answer}
use Rattle.sig_terms.specs.declared.answer.Answer.TheVariants as answer
use Rattle.sig_terms.specs.declared.fault.PrepareFault.TheVariants.{Memory}
use Rattle.sig_history.specs.Streams.{Parts}
use Rattle.sig_calls.specs.Told.{Told, making, outcome}
use Rattle.sig_ledger.specs.Books.{sum_in}
use Rattle.sig_ledger.specs.Steps.{reply_in}
use Rattle.sig_token_calls.proofs.operating.set.Goals as goal

pub returns-clause-answers : goal.returns-clause-answers
returns-clause-answers c =
    let parts : Parts = (sum_in c.args.ledger.now.books).parts in
    subst (λ (t : Told). Answers Memory (result_map reply_in c.make.result) (outcome t))
    (ap (λ (a : Answer). making parts a c.in_ok-fact.fact) c.in_ok-answer.ensures ∙ ap (making parts (answer.State c.args.stream.now c.args.status c.args.reason.now (Some c.args.number))) c.in_ok-fact.ensures)
    c.make.ensures.answers
