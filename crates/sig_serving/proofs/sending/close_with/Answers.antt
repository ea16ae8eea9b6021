use Rattle.std.proofs.Common.{ap, refl, Err, inl, inr}
use Rattle.sig_serving.proofs.WritingLemmas.{closes_out, not_raised, says_none, sends_kept}
use Rattle.sig_serving.proofs.sending.close_with.Goals as goal

pub returns-in-None-clause-closes : goal.returns-in-None-clause-closes
returns-in-None-clause-closes g c = rw c.in-None.is (record { comes = (refl, inl (says_none _ _ refl refl)) })

pub returns-in-Ok-clause-closes : goal.returns-in-Ok-clause-closes
returns-in-Ok-clause-closes g c = rw c.in-Some.is (record { comes = (refl, inl (record { whole = c.in-Ok.ensures.written; writes = c.in-Ok.ensures.steady (λ e. cc) })) })

pub returns-in-Memory-clause-closes : goal.returns-in-Memory-clause-closes
returns-in-Memory-clause-closes g c =
    closes_out _ _ _ _ _ c.run_out.ensures.end
    (sends_kept _ _ _ _ (c.in-Err.ensures.memory (ap Err c.in-Memory.is)) (c.in-Err.ensures.steady (λ e. let is = c.in-Memory.is in cc)) c.run_out.ensures.sends)

pub returns-in-Link-clause-closes : goal.returns-in-Link-clause-closes
returns-in-Link-clause-closes g c = rw c.in-Some.is (record { comes = (refl, inr (record { prefix = c.in-Err.ensures.prefix; cause = c.in-Err.ensures.link (ap Err c.in-Link.is) })) })

pub returns-in-Stuck-clause-closes : goal.returns-in-Stuck-clause-closes
returns-in-Stuck-clause-closes g c =
    absurd (not_raised _ _ (g.met.L.Link.moves _) (g.met.L.Link.moves _) (c.in-Err.ensures.stuck (ap Err c.in-Stuck.is)))
