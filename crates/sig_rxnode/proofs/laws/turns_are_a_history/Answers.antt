use Rattle.sig_rxnode.proofs.TurnLemmas.{turns_history}
use Rattle.sig_rxnode.proofs.laws.turns_are_a_history.Goals as goal

pub returns : goal.returns
returns c = turns_history
