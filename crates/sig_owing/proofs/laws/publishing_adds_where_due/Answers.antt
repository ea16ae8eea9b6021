use Rattle.sig_owing.proofs.OwedStepLemmas.{publishing_adds}
use Rattle.sig_owing.proofs.laws.publishing_adds_where_due.Goals as goal

pub returns : goal.returns
returns c = publishing_adds
