use Rattle.std.proofs.Common.{◌≡◌, drop}
use Rattle.sig_settings.specs.Lists as spec
use Rattle.sig_settings.proofs.listing.is_among.Given as goal

abbrev pub invariant-loop-item : goal.invariant-loop-item
invariant-loop-item g l = spec.is_among g.K.TextOf.text l.text l.items ≡ spec.is_among g.K.TextOf.text l.text (drop l.item-index l.items)
