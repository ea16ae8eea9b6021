use Rattle.sig_rs256.proofs.KeyLemmas.{decides_keys}
use Rattle.sig_rs256.proofs.laws.is_key_decides.Goals as goal

pub returns : goal.returns
returns c = decides_keys
