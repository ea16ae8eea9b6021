use Rattle.sig_rxstate.proofs.States as states
use Rattle.sig_rxstate.proofs.laws.spellings_differ.Goals as goal

pub returns : goal.returns
returns c = states.spellings_differ
