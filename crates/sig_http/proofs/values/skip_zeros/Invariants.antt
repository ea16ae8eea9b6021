use Rattle.std.proofs.Common.{◌≡◌, length}
use Rattle.sig_http.specs.Values.{skip_zeros}
use Rattle.sig_http.proofs.values.skip_zeros.Given as goal

abbrev pub invariant-loop-more : goal.invariant-loop-more
invariant-loop-more l = skip_zeros l.digits ≡ skip_zeros l.rest

abbrev pub decreases-loop-more : goal.decreases-loop-more
decreases-loop-more l = length l.rest
