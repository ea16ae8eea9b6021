use Rattle.std.proofs.Common.{◌≡◌, drop}
use Rattle.sig_http.specs.Values.{number_from}
use Rattle.sig_http.proofs.values.number_of.Given as goal

abbrev pub invariant-loop-digit : goal.invariant-loop-digit
invariant-loop-digit l = number_from 0 l.digits ≡ number_from l.number (drop l.digit-index l.digits)
