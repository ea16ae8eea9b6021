use Rattle.sig_rxnode.proofs.Acknowledged.{stands}
use Rattle.sig_rxnode.proofs.laws.acknowledged_tokens_stand.Goals as goal

pub returns : goal.returns
returns c = stands
