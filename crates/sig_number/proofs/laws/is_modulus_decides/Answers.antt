use Rattle.sig_number.proofs.SizeLemmas.{decides_moduli}
use Rattle.sig_number.proofs.laws.is_modulus_decides.Goals as goal

pub returns : goal.returns
returns c = decides_moduli
