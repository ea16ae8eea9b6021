use Rattle.std.proofs.Common.{refl}
use Rattle.sig_limit_laws.proofs.laws.streams_have_these_figures.Goals as goal

pub returns : goal.returns
returns c = record {
  streams = refl;
  name = refl;
  page = refl;
  interval = refl;
  url = refl;
  authorization = refl;
  want_bytes = refl;
  want_items = refl;
  setting_bytes = refl;
  setting_items = refl;
  refused = refl;
  refused_page = refl;
  code = refl;
}
