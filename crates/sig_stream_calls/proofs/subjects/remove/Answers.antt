use Rattle.sig_terms.specs.declared.answer.Answer.TheVariants as answer
use Rattle.sig_history.specs.Streams.{Stream}
use Rattle.sig_calls.specs.Subjects.{removed_change}
use Rattle.sig_calls.specs.Told.{with_change}
use Rattle.sig_stream_calls.proofs.FoundLemmas.{told_found}
use Rattle.sig_stream_calls.proofs.subjects.remove.Goals as goal

pub returns-clause-answers : goal.returns-clause-answers
returns-clause-answers c =
    told_found (λ (s : Stream). with_change answer.Removed (removed_change s.conf.defaults c.args.stream.now c.args.subject.now s)) c.args.ledger.now.books c.args.client.now c.args.stream.now _ _ _
    c.in_ok-turn.ensures c.client_account-account.ensures.found c.finish.ensures.answers
