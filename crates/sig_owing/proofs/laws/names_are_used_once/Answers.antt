use Rattle.sig_owing.proofs.NameLemmas.{names_once}
use Rattle.sig_owing.proofs.laws.names_are_used_once.Goals as goal

pub returns : goal.returns
returns c = names_once
