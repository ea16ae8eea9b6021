use Rattle.std.proofs.Common.{◌≡◌, ◌++◌, drop}
use Rattle.sig_rxsettings.specs.Issuers as spec
use Rattle.sig_rxsettings.proofs.issuer.secrets_in.Given as goal

abbrev pub invariant-loop-key : goal.invariant-loop-key
invariant-loop-key l = spec.secrets_in l.keys ≡ l.secrets.items ++ spec.secrets_in (drop l.key-index l.keys)
