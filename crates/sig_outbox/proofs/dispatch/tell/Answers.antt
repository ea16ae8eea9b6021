use Rattle.sig_calls.specs.Table.{told_of}
use Rattle.sig_outbox.proofs.dispatch.tell.Goals as goal

pub returns-in-Poll-clause-answers : goal.returns-in-Poll-clause-answers
unfolding told_of
returns-in-Poll-clause-answers c rules = rw c.in-Poll.is c.poll.ensures.answers
