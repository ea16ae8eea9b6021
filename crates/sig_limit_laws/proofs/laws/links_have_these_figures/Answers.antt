use Rattle.std.proofs.Common.{refl}
use Rattle.sig_limit_laws.proofs.laws.links_have_these_figures.Goals as goal

pub returns : goal.returns
returns c = record {
  at_once = refl;
  requests = refl;
  watch = refl;
  link = refl;
  request = refl;
  idle = refl;
  read = refl;
  write = refl;
  exchange = refl;
  dial = refl;
  addresses = refl;
  hurry = refl;
  look = refl;
  rest = refl;
  rest_reads = refl;
  rest_bytes = refl;
  accept = refl;
  lack = refl;
  lacking = refl;
}
