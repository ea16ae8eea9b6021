use Rattle.sig_round.specs.Rounds.{tokens_in}
use Rattle.sig_round.proofs.MorePushes.{delivered_memory}
use Rattle.sig_round.proofs.round.deliver_handed.Goals as goal

pub returns-in-Err-clause-delivered : goal.returns-in-Err-clause-delivered
returns-in-Err-clause-delivered g c = λ earlier hand e. delivered_memory c.args.rules.now _ (tokens_in hand.result) _ _ _
