use Rattle.std.proofs.Common.{refl}
use Rattle.sig_limit_laws.proofs.laws.messages_have_these_figures.Goals as goal

pub returns : goal.returns
returns c = record {
  head = refl;
  fields = refl;
  request = refl;
  response = refl;
  line = refl;
  digits = refl;
  trailer = refl;
  interim = refl;
  beside_request = refl;
  beside_response = refl;
  taken_request = refl;
  taken_response = refl;
  exchange = refl;
}
