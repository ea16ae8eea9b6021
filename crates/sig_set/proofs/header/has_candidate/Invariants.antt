use Rattle.std.proofs.Common.{◌≡◌, drop, option_map}
use Rattle.std.specs.Prelude.{option_copied}
use Rattle.serde_json.specs.View.{view}
use Rattle.sig_set.specs.Header.{has_candidate}
use Rattle.sig_set.proofs.header.has_candidate.Given as goal

abbrev pub invariant-loop-key : goal.invariant-loop-key
invariant-loop-key g l =
    has_candidate g.S.Signer.name (option_map view (option_copied l.kid)) l.keys
    ≡ has_candidate g.S.Signer.name (option_map view (option_copied l.kid)) (drop l.key-index l.keys)
