use Rattle.sig_outbox.proofs.ReadyLemmas.{ready_over}
use Rattle.sig_outbox.proofs.outbox.Outbox.prepare.Goals as goal

pub returns-clause-ready : goal.returns-clause-ready
returns-clause-ready c =
    ready_over c.args.rules.now c.self.inside.ledger.books c.dispatch.new.ledger.books c.dispatch.new.ledger.room c.args.call.now c.args.now c.dispatch.result
    c.dispatch.ensures.keeps c.books_are_kept.ensures c.dispatch.ensures.answers c.dispatch.ensures.room
