use Rattle.std.proofs.Common.{◌≡◌, ◌++◌, drop}
use Rattle.sig_rxsettings.specs.Issuers as spec
use Rattle.sig_rxsettings.proofs.issuer.publics_in.Given as goal

abbrev pub invariant-loop-key : goal.invariant-loop-key
invariant-loop-key l = spec.publics_in l.keys ≡ l.publics.items ++ spec.publics_in (drop l.key-index l.keys)
