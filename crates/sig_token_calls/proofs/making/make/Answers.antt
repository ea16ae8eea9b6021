use Rattle.std.proofs.Common.{subst}
use Rattle.sig_json.specs.Answers.{Answers, result_map}
use Rattle.sig_terms.specs.declared.fact.Fact.{Fact}
use Rattle.sig_terms.specs.declared.fault.PrepareFault.TheVariants.{Memory}
use Rattle.sig_calls.specs.Told.{making, outcome}
use Rattle.sig_ledger.specs.Books.{sum_in}
use Rattle.sig_ledger.specs.Steps.{reply_in}
use Rattle.sig_token_calls.proofs.making.make.Goals as goal

pub returns-clause-answers : goal.returns-clause-answers
returns-clause-answers c =
    subst (λ (f : Fact). Answers Memory (result_map reply_in c.make_told.result) (outcome (making (sum_in c.args.ledger.now.books).parts c.args.answer f)))
    c.in_ok-addressed.ensures.fact c.make_told.ensures.answers
