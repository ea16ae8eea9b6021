use Rattle.sig_number.proofs.ModLemmas.{closer_step}
use Rattle.std.proofs.Common.{◌^◌}
use Rattle.sig_number.proofs.inverse.closer.Goals as goal

pub returns : goal.returns
returns c p e h k = closer_step c.args.odd c.args.inverse p e (2 ^ 64) h k
