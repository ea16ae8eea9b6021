use Rattle.sig_base.proofs.BaseLemmas as bases
use Rattle.sig_base.proofs.laws.spellings_differ.Goals as goal

pub returns : goal.returns
returns c = bases.spellings_differ
