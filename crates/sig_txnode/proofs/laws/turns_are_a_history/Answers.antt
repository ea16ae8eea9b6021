use Rattle.sig_txnode.proofs.TurnLemmas.{turns_history}
use Rattle.sig_txnode.proofs.laws.turns_are_a_history.Goals as goal

pub returns : goal.returns
returns c = turns_history
