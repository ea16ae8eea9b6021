use Rattle.sig_link.proofs.EndLemmas.{serves_first}
use Rattle.sig_link.proofs.serving.serve_link.Goals as goal

pub returns-clause-serves : goal.returns-clause-serves
returns-clause-serves g c =
    serves_first _ _ _ _ _ _ _ _ _ _ _ _ _ _ _ _ c.start-work.ensures.link c.start-work.ensures.kept c.start-work.ensures.turns c.of.ensures c.serve_all-end.ensures.serves
