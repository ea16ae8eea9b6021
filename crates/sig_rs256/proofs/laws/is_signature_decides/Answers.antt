use Rattle.sig_rs256.proofs.SignatureLemmas.{decides_signatures}
use Rattle.sig_rs256.proofs.laws.is_signature_decides.Goals as goal

pub returns : goal.returns
returns c = decides_signatures
