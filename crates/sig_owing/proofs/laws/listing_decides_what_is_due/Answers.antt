use Rattle.sig_history.proofs.ChangeLemmas.{listing_decides}
use Rattle.sig_owing.proofs.laws.listing_decides_what_is_due.Goals as goal

pub returns : goal.returns
returns c = listing_decides
