use Rattle.std.proofs.Common.{◌≡◌, Some, drop, option_map}
use Rattle.std.specs.Prelude.{option_copied}
use Rattle.serde_json.specs.View.{view}
use Rattle.sig_set.specs.Header.{is_verified}
use Rattle.sig_set.proofs.header.is_verified.Given as goal

abbrev pub invariant-loop-key : goal.invariant-loop-key
invariant-loop-key g l =
    is_verified g.S.Signer.name (g.S.Signer.signed (Some l.token)) (option_map view (option_copied l.kid)) l.keys
    ≡ is_verified g.S.Signer.name (g.S.Signer.signed (Some l.token)) (option_map view (option_copied l.kid)) (drop l.key-index l.keys)
