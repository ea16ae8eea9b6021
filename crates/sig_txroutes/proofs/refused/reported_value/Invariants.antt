use Rattle.std.proofs.Common.{◌≡◌, map, take}
use Rattle.serde_json.specs.View.{view}
use Rattle.sig_txroutes.specs.Documents.{refused_token_data}
use Rattle.sig_txroutes.proofs.refused.reported_value.Given as goal

abbrev pub invariant-loop-token : goal.invariant-loop-token
invariant-loop-token l = map view l.values.items ≡ map refused_token_data (take l.token-index l.tokens)
