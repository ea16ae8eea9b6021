use Rattle.std.proofs.Common.{◌≡◌, drop}
use Rattle.sig_settings.specs.Lists as spec
use Rattle.sig_settings.proofs.listing.each_once.Given as goal

abbrev pub invariant-loop-i : goal.invariant-loop-i
invariant-loop-i g l = spec.each_once g.K.TextOf.text l.items ≡ spec.each_once g.K.TextOf.text (drop l.i l.items)
