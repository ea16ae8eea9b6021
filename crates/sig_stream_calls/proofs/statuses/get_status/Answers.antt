use Rattle.sig_history.specs.Streams.{Stream}
use Rattle.sig_calls.specs.Statuses.{state_of}
use Rattle.sig_calls.specs.Told.{only}
use Rattle.sig_stream_calls.proofs.FoundLemmas.{told_found}
use Rattle.sig_stream_calls.proofs.statuses.get_status.Goals as goal

pub returns-clause-answers : goal.returns-clause-answers
returns-clause-answers c =
    told_found (λ (s : Stream). only (state_of c.args.stream.now s)) c.args.ledger.now.books c.args.client.now c.args.stream.now _ _ _
    c.in_ok-turn.ensures c.client_account.ensures.found c.finish.ensures.answers
