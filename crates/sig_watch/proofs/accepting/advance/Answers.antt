use Rattle.std.proofs.Common.{refl}
use Rattle.sig_watch.proofs.PassLemmas.{after}
use Rattle.sig_watch.proofs.accepting.advance.Goals as goal

pub returns-clause-passes : goal.returns-clause-passes
returns-clause-passes g c =
    after (g.H.Host.serves c.args.host.now) _ _ _ _ _ _ _ _ refl c.begin_errand.ensures.passes c.accept_next.ensures.passes
