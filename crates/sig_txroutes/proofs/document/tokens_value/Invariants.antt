use Rattle.std.proofs.Common.{◌≡◌, map, take}
use Rattle.serde_json.specs.View.{view}
use Rattle.sig_txroutes.specs.Documents.{token_data}
use Rattle.sig_txroutes.proofs.document.tokens_value.Given as goal

abbrev pub invariant-loop-token : goal.invariant-loop-token
invariant-loop-token l = map view l.values.items ≡ map (token_data l.store_id) (take l.token-index l.tokens)
