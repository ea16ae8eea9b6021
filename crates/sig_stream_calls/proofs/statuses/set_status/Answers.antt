use Rattle.sig_calls.specs.Statuses.{status_set}
use Rattle.sig_stream_calls.proofs.FoundLemmas.{told_found}
use Rattle.sig_stream_calls.proofs.statuses.set_status.Goals as goal

pub returns-clause-answers : goal.returns-clause-answers
returns-clause-answers c =
    told_found (status_set c.args.stream.now c.args.status c.args.reason.now c.args.now) c.args.ledger.now.books c.args.client.now c.args.stream.now _ _ _
    c.in_ok-turn.ensures c.client_account-account.ensures.found c.finish.ensures.answers
