use Rattle.sig_bounds.proofs.DataSizes.{texts_small}
use Rattle.sig_bounds.proofs.laws.texts_are_small.Goals as goal

pub returns : goal.returns
returns c = texts_small
