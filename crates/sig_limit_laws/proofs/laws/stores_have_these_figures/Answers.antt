use Rattle.std.proofs.Common.{refl}
use Rattle.sig_limit_laws.proofs.laws.stores_have_these_figures.Goals as goal

pub returns : goal.returns
returns c = record {
  magic = refl;
  version = refl;
  header = refl;
  name = refl;
  record_head = refl;
  gate = refl;
}
