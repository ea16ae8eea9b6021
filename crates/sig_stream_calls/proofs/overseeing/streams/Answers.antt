use Rattle.std.proofs.Common.{◌≡◌, ◌∙◌, ap, subst, List, map}
use Rattle.sig_json.specs.Answers.{Answers, result_map}
use Rattle.sig_terms.specs.declared.fault.PrepareFault.TheVariants.{Memory}
use Rattle.sig_calls.specs.Told.{Told, outcome, with_change}
use Rattle.sig_accounts.specs.Owings.{Balance, owing_in}
use Rattle.sig_ledger.specs.Steps.{reply_in}
use Rattle.sig_stream_calls.specs.declared.turn.Turn.{Turn}
use Rattle.sig_stream_calls.specs.Standings.{standing_in}
use Rattle.sig_stream_calls.proofs.StandingLemmas.{listed}
use Rattle.sig_stream_calls.proofs.overseeing.streams.Goals as goal

pub returns-clause-answers : goal.returns-clause-answers
returns-clause-answers c =
    subst (λ (t : Told). Answers Memory (result_map reply_in c.finish.result) (outcome t))
    (listed c.args.ledger.now.books c.accounts-accounts.result.now c.args.from c.place_behind-next.result c.in_ok-standings.standings
    c.accounts-accounts.ensures.kept c.accounts-accounts.ensures.accounts c.place_behind-next.ensures
    (c.in_ok-standings.ensures ∙ ap (λ (bs : List Balance). map standing_in (map owing_in bs)) c.page_of-page.ensures))
    (subst (λ (t : Turn). Answers Memory (result_map reply_in c.finish.result) (outcome (with_change t.answer t.change))) c.only.ensures c.finish.ensures.answers)
