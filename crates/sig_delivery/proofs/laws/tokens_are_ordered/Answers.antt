use Rattle.sig_delivery.proofs.ByNames.{ordered_tokens}
use Rattle.sig_delivery.proofs.laws.tokens_are_ordered.Goals as goal

pub returns : goal.returns
returns c = ordered_tokens
