use Rattle.sig_calls.proofs.NumberLemmas.{number_comes}
use Rattle.sig_calls.proofs.laws.number_comes_exactly.Goals as goal

pub returns : goal.returns
returns c = number_comes
