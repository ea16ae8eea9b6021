use Rattle.sig_calls.specs.Configuring.{reconfigured, replaced}
use Rattle.sig_stream_calls.proofs.FoundLemmas.{told_found}
use Rattle.sig_stream_calls.proofs.configuring.put.Goals as goal

pub returns-clause-answers : goal.returns-clause-answers
returns-clause-answers c =
    told_found (reconfigured c.args.stream.now (replaced c.args.want.now)) c.args.ledger.now.books c.args.client.now c.args.stream.now _ _ _
    c.in_ok-turn.ensures c.client_account-account.ensures.found c.finish.ensures.answers
