-- The transmitter whose streams are managed (OpenID Shared Signals Framework 1.0, section 8).
use Rattle.std.specs.Prelude.{◌≡◌, ◌&&◌, ℕ, List, [], ◌∷◌, Bool, true, not, bytes_eq, Option, Some, None, is_some, IsSome, option_and_then, Result, Ok, Err, codes, if◌then◌else◌}
use Rattle.serde_json.specs.Data.{Data}
use Rattle.serde_json.specs.Find.{as_str}
use Rattle.sig_json.specs.Json.{member_of}
use Rattle.sig_outside.specs.declared.place.Place.{Place}
use Rattle.sig_terms.specs.declared.endpoint.Endpoint.{Endpoint}
use Rattle.sig_stream.specs.Endpoints.{endpoint_of}
use Rattle.sig_stream.specs.Steps.{◌>>=◌}
use Rattle.sig_settings.specs.declared.fault.SettingsFault.{SettingsFault}
use Rattle.sig_settings.specs.declared.fault.ValueFault.{ValueFault}
use Rattle.sig_settings.specs.declared.fault.ValueFault.TheVariants.{Wrong}
use Rattle.sig_settings.specs.declared.path.Step.TheVariants.{Member}
use Rattle.sig_settings.specs.Members.{found, needed, told_of}
use Rattle.sig_declared.specs.declared.provider.Provider.{Provider}

-- an endpoint whose path is `/`
abbrev pub where_root : Endpoint → Option Endpoint
where_root e = if bytes_eq e.path (codes "/") then Some e else None

-- the endpoint that a URL with the path `/` spells (RFC 3986, section 3)
abbrev pub root_of : List ℕ → Option Endpoint
root_of url = option_and_then where_root (endpoint_of url)

abbrev pub root_at : Data → Result Endpoint ValueFault
root_at d = found (option_and_then root_of (as_str d))

-- whether the settings give a gateway, be it right or wrong
abbrev pub gives_gateway : Data → Bool
gives_gateway d = is_some (member_of (codes "tls_gateway") d)

-- the endpoint can be reached: `https` needs the gateway
abbrev pub is_reached : Bool → Endpoint → Result (Unit {0}) SettingsFault
is_reached gateway e = if e.secure && not gateway then Err (told_of (Wrong (Member (codes "url") ∷ []))) else Ok tt

-- the member `url`
unfoldable pub endpoint_in : Data → Result Endpoint SettingsFault
endpoint_in d = do
  endpoint ← needed root_at (codes "url") d
  reached ← is_reached (gives_gateway d) endpoint
  Ok endpoint

-- the transmitter, with the gateway where its endpoint is `https`
abbrev pub provider_of : List ℕ → Endpoint → Option Place → Provider
provider_of bearer endpoint gateway =
    record { endpoint = endpoint; gateway = if endpoint.secure then gateway else None; bearer = bearer }

-- one that is reached by `https` has its gateway
abbrev pub HasItsGateway : Provider → Type 0
HasItsGateway p = p.endpoint.secure ≡ true → IsSome p.gateway
