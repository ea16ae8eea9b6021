use Rattle.sig_calls.proofs.SpeakingLemmas.{answers_true}
use Rattle.sig_calls.proofs.laws.answers_are_true.Goals as goal

pub returns : goal.returns
returns c = answers_true
