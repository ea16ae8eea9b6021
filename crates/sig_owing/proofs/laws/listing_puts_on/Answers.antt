use Rattle.sig_history.proofs.ChangeLemmas.{listing_puts}
use Rattle.sig_owing.proofs.laws.listing_puts_on.Goals as goal

pub returns : goal.returns
returns c = listing_puts
