-- A host and a port, as the authority of a URL has them (RFC 3986, section 3.2).
use Rattle.std.specs.Prelude.{◌≡◌, ◌↔◌, ◌≤◌, ◌<◌, ◌&&◌, ◌^◌, ℕ, List, ◌++◌, Bool, not, Option, Some, None, Result, option_and_then, option_map, codes, decimal, if◌then◌else◌}
use Rattle.std.specs.List.{list_any}
use Rattle.serde_json.specs.Data.{Data}
use Rattle.serde_json.specs.Find.{as_str}
use Rattle.sig_outside.specs.declared.place.Place.{Place}
use Rattle.sig_terms.specs.declared.endpoint.Endpoint.{Endpoint}
use Rattle.sig_stream.specs.Endpoints.{IsHost, endpoint_of, is_colon, is_slash}
use Rattle.sig_settings.specs.declared.fault.ValueFault.{ValueFault}
use Rattle.sig_settings.specs.Members.{found}

-- ---- the relation

-- a text that spells a place: a host, `:`, and a port from 1 in decimal
pub record SpellsPlace (place : Place) (text : List ℕ) : Type 0 where
  pub is : text ≡ place.host ++ codes ":" ++ decimal place.port
  pub host : IsHost place.host
  pub low : 1 ≤ place.port
  pub high : place.port < 2 ^ 16

-- ---- the reading

-- a port stands in the text, and no path
abbrev pub names_port : List ℕ → Bool
names_port text = list_any is_colon text && not (list_any is_slash text)

abbrev pub place_in : Endpoint → Place
place_in e = e.place

-- the place of the endpoint whose URL has this authority, where the authority names the port and no path follows
abbrev pub place_of : List ℕ → Option Place
place_of text = if names_port text then option_map place_in (endpoint_of (codes "http://" ++ text)) else None

-- a text that spells a place
abbrev pub place_at : Data → Result Place ValueFault
place_at d = found (option_and_then place_of (as_str d))

-- ---- the law

-- the reading and the relation agree
abbrev pub ReadsPlaces : Type 0
ReadsPlaces = (text : List ℕ) (place : Place) → SpellsPlace place text ↔ (place_of text ≡ Some place)
