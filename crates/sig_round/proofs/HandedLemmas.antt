-- What a round is handed has endpoints.
use Rattle.std.proofs.Common.{ℕ, List, [], map, flat_map, if◌then◌else◌, Some, None, IsSome, refl}
use Rattle.std.specs.Option.{option_map_or}
use Rattle.std.specs.Prelude.{All}
use Rattle.std.proofs.lemmas.List.Elements.{All-map, All-nil, All-take}
use Rattle.sig_json.specs.declared.limits.TheConstants.{TOKENS_PER_PAGE}
use Rattle.sig_terms.specs.Deliveries.{is_push}
use Rattle.sig_terms.specs.declared.token.Token.{Token}
use Rattle.sig_terms.specs.declared.want.Delivery.{Delivery}
use Rattle.sig_terms.specs.declared.want.Delivery.TheVariants.{Poll, Push}
use Rattle.sig_history.specs.Streams.{Made, Stream, token_of}
use Rattle.sig_history.specs.Owed.{Sum, offered_by, stream_named}
use Rattle.sig_calls.proofs.OfferedLemmas.{All-flat_map}
use Rattle.sig_calls.specs.Handing.{first_names, pushed_by}
use Rattle.sig_round.specs.Laws.{HandedHaveEndpoints}

tokens_have : (d : Delivery) (ts : List Made) → All (λ (t : Token). IsSome t.endpoint) (if is_push d then map (token_of d) ts else [])
tokens_have Poll ts = All-nil (λ (t : Token). IsSome t.endpoint)
tokens_have (Push endpoint url authorization) ts =
    All-map (λ (t : Token). IsSome t.endpoint) (token_of (Push endpoint url authorization)) ts (λ k d h. refl)

stream_has : (sum : Sum) (name : List ℕ) → All (λ (t : Token). IsSome t.endpoint) (pushed_by sum name)
stream_has sum name =
    elim (stream_named name sum.parts.streams) as (λ o. All (λ (t : Token). IsSome t.endpoint)
    (option_map_or (λ (s : Stream). if is_push s.conf.delivery then map (token_of s.conf.delivery) (offered_by sum name) else []) o [])) [
      | None ↦ All-nil (λ (t : Token). IsSome t.endpoint)
      | Some s ↦ tokens_have s.conf.delivery (offered_by sum name)
    ]

pub handed_have_endpoints : HandedHaveEndpoints
handed_have_endpoints sum streams =
    All-take (λ (t : Token). IsSome t.endpoint) TOKENS_PER_PAGE (flat_map (pushed_by sum) (first_names [] streams))
    (All-flat_map (λ (t : Token). IsSome t.endpoint) (pushed_by sum) (stream_has sum) (first_names [] streams))
