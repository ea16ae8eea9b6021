use Rattle.std.proofs.Common.{◌≡◌, map, take}
use Rattle.serde_json.specs.Data.{string}
use Rattle.serde_json.specs.View.{view}
use Rattle.sig_event.specs.Types.{uri_of_type}
use Rattle.sig_stream.proofs.configuration.supported_value.Given as goal

abbrev pub invariant-loop-event_type : goal.invariant-loop-event_type
invariant-loop-event_type l = map view l.values.items ≡ map (λ t. string t) (map uri_of_type (take l.event_type-index l.event_type-items))
