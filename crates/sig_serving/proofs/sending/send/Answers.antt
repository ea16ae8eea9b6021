use Rattle.std.proofs.Common.{ap, refl, Err}
use Rattle.sig_serving.proofs.WritingLemmas.{not_raised, responds_out, sends_kept}
use Rattle.sig_serving.proofs.sending.send.Goals as goal

pub returns-in-Ok-clause-responds : goal.returns-in-Ok-clause-responds
returns-in-Ok-clause-responds g c = record { comes = record { whole = c.in-Ok.ensures.written; writes = c.in-Ok.ensures.steady (λ e. cc) } }

pub returns-in-Memory-clause-responds : goal.returns-in-Memory-clause-responds
returns-in-Memory-clause-responds g c =
    responds_out _ _ _ _ c.run_out.ensures.end
    (sends_kept _ _ _ _ (c.in-Err.ensures.memory (ap Err c.in-Memory.is)) (c.in-Err.ensures.steady (λ e. let is = c.in-Memory.is in cc)) c.run_out.ensures.sends)

pub returns-in-Link-clause-responds : goal.returns-in-Link-clause-responds
returns-in-Link-clause-responds g c = record { comes = (refl, record { prefix = c.in-Err.ensures.prefix; cause = c.in-Err.ensures.link (ap Err c.in-Link.is) }) }

pub returns-in-Stuck-clause-responds : goal.returns-in-Stuck-clause-responds
returns-in-Stuck-clause-responds g c =
    absurd (not_raised _ _ (g.met.L.Link.moves _) (g.met.L.Link.moves _) (c.in-Err.ensures.stuck (ap Err c.in-Stuck.is)))
