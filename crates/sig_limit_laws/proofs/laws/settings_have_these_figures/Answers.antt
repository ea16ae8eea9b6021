use Rattle.std.proofs.Common.{refl}
use Rattle.sig_limit_laws.proofs.laws.settings_have_these_figures.Goals as goal

pub returns : goal.returns
returns c = record {
  settings = refl;
  clients = refl;
  issuers = refl;
  principals = refl;
  keys = refl;
  script_line = refl;
  rows = refl;
  gathered = refl;
}
