-- Where a push leads, and what is written (RFC 8935, section 2.1).
use Rattle.std.specs.Prelude.{ℕ, List, Bool, false, ◌&&◌, is_none, Option, Some, if◌then◌else◌}
use Rattle.std.specs.Option.{option_map_or}
use Rattle.sig_delivery.specs.Pushes.{push_kind, push_of}
use Rattle.sig_http.specs.Spelling.{request_spelling}
use Rattle.sig_outside.specs.declared.place.Place.{Place}
use Rattle.sig_terms.specs.declared.endpoint.Endpoint.{Endpoint}
use Rattle.sig_terms.specs.declared.rules.Rules.{Rules}
use Rattle.sig_terms.specs.declared.token.Token.{Token}

-- where the link to an endpoint leads: to its own place, and to the gateway where it is https
abbrev pub place_by : Option Place → Endpoint → Option Place
place_by gateway endpoint = if endpoint.secure then gateway else Some endpoint.place

-- a token's endpoint is https, and there is no gateway to it
abbrev pub lacks_gateway : Rules → Token → Bool
lacks_gateway rules token = option_map_or (λ (e : Endpoint). e.secure && is_none rules.gateway) token.endpoint false

-- the written push of a token to its endpoint, whose host is named also where the gateway is dialled
abbrev pub push_text : Rules → Token → Endpoint → List ℕ
push_text rules token endpoint = request_spelling endpoint.place (push_of token rules.key) push_kind false
