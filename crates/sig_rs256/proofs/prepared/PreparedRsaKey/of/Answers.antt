use Rattle.std.proofs.Common.{sym, subst}
use Rattle.std.specs.Prelude.{IsTrue}
use Rattle.sig_number.specs.Modulus.{is_modulus}
use Rattle.sig_number.proofs.SizeLemmas.{decides_moduli}
use Rattle.sig_rs256.proofs.KeyLemmas.{decides_keys}
use Rattle.sig_rs256.proofs.prepared.PreparedRsaKey.of.Goals as goal

pub of-requires : goal.of-requires
of-requires c =
    let k = (decides_keys _ _).0 c.modulus.ensures.key in
    subst (λ z. IsTrue (is_modulus z)) (sym c.modulus.ensures.same) ((decides_moduli _).1 k.spelled)
