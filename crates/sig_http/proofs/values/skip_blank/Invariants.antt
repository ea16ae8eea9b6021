use Rattle.std.proofs.Common.{◌≡◌, length}
use Rattle.sig_http.specs.Values.{skip_blank}
use Rattle.sig_http.proofs.values.skip_blank.Given as goal

abbrev pub invariant-loop-more : goal.invariant-loop-more
invariant-loop-more l = skip_blank l.bytes ≡ skip_blank l.rest

abbrev pub decreases-loop-more : goal.decreases-loop-more
decreases-loop-more l = length l.rest
