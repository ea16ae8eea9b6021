use Rattle.std.proofs.Common.{◌≡◌, take}
use Rattle.sig_set.proofs.prepared.prepared_issuers.Given as goal

abbrev pub invariant-loop-issuer : goal.invariant-loop-issuer
invariant-loop-issuer l = l.prepared.items ≡ take l.issuer-index l.issuers
