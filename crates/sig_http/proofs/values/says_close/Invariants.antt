use Rattle.std.proofs.Common.{◌≡◌, length}
use Rattle.sig_http.specs.Values.{says_close}
use Rattle.sig_http.proofs.values.says_close.Given as goal

abbrev pub invariant-tokens : goal.invariant-tokens
invariant-tokens l = says_close l.value ≡ says_close l.rest

abbrev pub decreases-tokens : goal.decreases-tokens
decreases-tokens l = length l.rest
