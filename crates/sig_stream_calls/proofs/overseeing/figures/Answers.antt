use Rattle.std.proofs.Common.{◌≡◌, ◌∙◌, ap, subst, length, List}
use Rattle.sig_json.specs.Answers.{Answers, result_map}
use Rattle.sig_terms.specs.declared.fault.PrepareFault.TheVariants.{Memory}
use Rattle.sig_history.specs.Streams.{Publication}
use Rattle.sig_calls.specs.Told.{Told, outcome, with_change}
use Rattle.sig_ledger.specs.Steps.{reply_in}
use Rattle.sig_stream_calls.specs.declared.turn.Turn.{Turn}
use Rattle.sig_stream_calls.proofs.StandingLemmas.{figured}
use Rattle.sig_stream_calls.proofs.overseeing.figures.Goals as goal

pub returns-clause-answers : goal.returns-clause-answers
returns-clause-answers c =
    subst (λ (t : Told). Answers Memory (result_map reply_in c.finish.result) (outcome t))
    (figured c.args.ledger.now.books c.accounts.result.now c.count_of-publications.result c.in_ok-standings.standings
    c.accounts.ensures.kept c.accounts.ensures.accounts
    (c.count_of-publications.ensures ∙ ap (λ (ps : List Publication). length ps) c.published.ensures)
    c.in_ok-standings.ensures)
    (subst (λ (t : Turn). Answers Memory (result_map reply_in c.finish.result) (outcome (with_change t.answer t.change))) c.only.ensures c.finish.ensures.answers)
