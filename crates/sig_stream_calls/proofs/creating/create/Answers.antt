use Rattle.std.proofs.Common.{◌≡◌, ◌∙◌, ap, subst, Option, Some}
use Rattle.sig_json.specs.Answers.{Answers, result_map}
use Rattle.sig_terms.specs.declared.fault.PrepareFault.TheVariants.{Memory}
use Rattle.sig_terms.specs.declared.rules.Client.{Client}
use Rattle.sig_calls.specs.Creating.{client_of, created_for}
use Rattle.sig_calls.specs.Told.{outcome}
use Rattle.sig_ledger.specs.Books.{sum_in}
use Rattle.sig_ledger.specs.Steps.{reply_in}
use Rattle.sig_stream_calls.proofs.creating.create.Goals as goal

pub returns-in-Some-clause-answers : goal.returns-in-Some-clause-answers
returns-in-Some-clause-answers c =
    subst (λ (o : Option Client). Answers Memory (result_map reply_in c.create_for.result)
    (outcome (created_for c.args.rules.now (sum_in c.args.ledger.now.books).parts c.args.want.now c.args.now o)))
    (c.in-Some.ensures ∙ ap (client_of c.args.client.now) c.as_slice.ensures) c.create_for.ensures.answers
