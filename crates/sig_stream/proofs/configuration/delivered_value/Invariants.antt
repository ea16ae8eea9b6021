use Rattle.std.proofs.Common.{◌≡◌, ◌++◌, map, drop}
use Rattle.std.specs.List.{filter}
use Rattle.serde_json.specs.Data.{string}
use Rattle.serde_json.specs.View.{view}
use Rattle.sig_event.specs.Types.{uri_of_type}
use Rattle.sig_terms.specs.Fitting.{is_requested}
use Rattle.sig_stream.proofs.configuration.delivered_value.Given as goal

abbrev pub invariant-loop-event_type : goal.invariant-loop-event_type
invariant-loop-event_type l =
    map (λ t. string t) (filter (λ uri. is_requested uri l.requested) (map uri_of_type l.event_type-items))
    ≡ map view l.values.items ++ map (λ t. string t) (filter (λ uri. is_requested uri l.requested) (map uri_of_type (drop l.event_type-index l.event_type-items)))
