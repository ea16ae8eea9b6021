use Rattle.sig_receiver.proofs.JournalLemmas.{joins}
use Rattle.sig_receiver.proofs.laws.journals_join.Goals as goal

pub returns : goal.returns
returns c = joins
