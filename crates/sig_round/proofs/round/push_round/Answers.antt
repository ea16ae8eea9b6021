use Rattle.sig_round.proofs.MoreRounds.{attempted_from}
use Rattle.sig_round.proofs.round.push_round.Goals as goal

pub returns-clause-attempted : goal.returns-clause-attempted
returns-clause-attempted g c = attempted_from _ _ _ _ _ _ _ _ _ _ _ _ c.begin_round.ensures.view c.push_offered-end.ensures.round c.outcome_of.ensures
