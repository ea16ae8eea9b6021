use Rattle.sig_terms.specs.declared.answer.Answer.TheVariants as answer
use Rattle.sig_history.specs.Streams.{Stream}
use Rattle.sig_calls.specs.Told.{only}
use Rattle.sig_stream_calls.proofs.FoundLemmas.{told_found}
use Rattle.sig_stream_calls.proofs.reading.read.Goals as goal

pub returns-clause-answers : goal.returns-clause-answers
returns-clause-answers c =
    told_found (λ (s : Stream). only (answer.Conf s.conf)) c.args.ledger.now.books c.args.client.now c.args.stream.now _ _ _
    c.in_ok-turn.ensures c.client_account.ensures.found c.finish.ensures.answers
