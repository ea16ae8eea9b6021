use Rattle.sig_calls.proofs.RegularLemmas.{calls_regular}
use Rattle.sig_calls.proofs.laws.calls_are_regular.Goals as goal

pub returns : goal.returns
returns c = calls_regular
