use Rattle.std.proofs.Common.{◌≡◌, filter, map, take}
use Rattle.sig_terms.specs.declared.token.Issued.{Issued}
use Rattle.sig_txend.specs.Following.{has_client}
use Rattle.sig_txend.proofs.following.names_of.Given as goal

abbrev pub invariant-loop-token : goal.invariant-loop-token
invariant-loop-token l = l.names.items ≡ filter (has_client l.rules) (map (λ (t : Issued). t.stream) (take l.token-index l.tokens))
