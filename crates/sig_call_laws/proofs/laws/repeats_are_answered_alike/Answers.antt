use Rattle.sig_call_laws.proofs.RepeatLemmas.{repeats_alike}
use Rattle.sig_call_laws.proofs.laws.repeats_are_answered_alike.Goals as goal

pub returns : goal.returns
returns c = repeats_alike
