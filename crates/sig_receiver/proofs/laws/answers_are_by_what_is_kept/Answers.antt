use Rattle.sig_receiver.proofs.KeptLemmas.{answers}
use Rattle.sig_receiver.proofs.laws.answers_are_by_what_is_kept.Goals as goal

pub returns : goal.returns
returns c = answers
