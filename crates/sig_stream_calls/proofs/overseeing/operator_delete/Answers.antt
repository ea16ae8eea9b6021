use Rattle.std.proofs.Common.{◌∙◌, ap, subst, ℕ, List, Some}
use Rattle.sig_json.specs.Answers.{Answers, result_map}
use Rattle.sig_terms.specs.declared.answer.Answer.TheVariants as answer
use Rattle.sig_terms.specs.declared.fact.Fact.TheVariants as fact
use Rattle.sig_terms.specs.declared.fault.PrepareFault.TheVariants.{Memory}
use Rattle.sig_history.specs.Streams.{Stream}
use Rattle.sig_calls.specs.Told.{Told, outcome, with_change}
use Rattle.sig_accounts.specs.Owings.{owing_named}
use Rattle.sig_ledger.specs.Steps.{reply_in}
use Rattle.sig_stream_calls.proofs.StandingLemmas.{told_named}
use Rattle.sig_stream_calls.proofs.overseeing.operator_delete.Goals as goal

pub returns-clause-answers : goal.returns-clause-answers
returns-clause-answers c =
    subst (λ (t : Told). Answers Memory (result_map reply_in c.finish.result) (outcome t))
    (told_named (λ (s : Stream). with_change answer.Gone (Some (fact.Deleted c.args.stream.now))) c.args.ledger.now.books c.args.stream.now _ _
    c.in_ok-turn.ensures
    (c.account.ensures.found ∙ ap (λ (n : List ℕ). owing_named n c.args.ledger.now.books.owings) c.as_str.ensures.same))
    c.finish.ensures.answers
