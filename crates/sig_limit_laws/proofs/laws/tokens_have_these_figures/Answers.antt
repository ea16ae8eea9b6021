use Rattle.std.proofs.Common.{refl}
use Rattle.sig_limit_laws.proofs.laws.tokens_have_these_figures.Goals as goal

pub returns : goal.returns
returns c = record {
  token = refl;
  payload = refl;
  key_least = refl;
  key_most = refl;
  key_name = refl;
  mac = refl;
  modulus_least = refl;
  modulus_most = refl;
  last = refl;
}
