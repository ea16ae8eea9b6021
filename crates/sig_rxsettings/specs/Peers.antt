-- The transmitter whose tokens a receiver fetches (RFC 8936).
use Rattle.std.specs.Prelude.{◌≡◌, ◌&&◌, ℕ, List, [], ◌∷◌, Bool, true, not, map, Option, Some, None, is_some, IsSome, option_and_then, option_map, Result, Ok, Err, codes, if◌then◌else◌}
use Rattle.serde_json.specs.Data.{Data}
use Rattle.serde_json.specs.Find.{as_str}
use Rattle.sig_json.specs.Json.{member_of}
use Rattle.sig_outside.specs.declared.place.Place.{Place}
use Rattle.sig_terms.specs.declared.endpoint.Endpoint.{Endpoint}
use Rattle.sig_stream.specs.Endpoints.{endpoint_of}
use Rattle.sig_stream.specs.Steps.{◌>>=◌}
use Rattle.sig_rxnode.specs.declared.rules.Peer.{Peer}
use Rattle.sig_rxnode.specs.declared.rules.Principal.{Principal}
use Rattle.sig_settings.specs.declared.fault.SettingsFault.{SettingsFault}
use Rattle.sig_settings.specs.declared.fault.ValueFault.{ValueFault}
use Rattle.sig_settings.specs.declared.fault.ValueFault.TheVariants.{Wrong}
use Rattle.sig_settings.specs.declared.path.Step.TheVariants.{Member}
use Rattle.sig_settings.specs.Bearers.{Placed, differ}
use Rattle.sig_settings.specs.Members.{found, is_whole, member_at, optional, told_of}
use Rattle.sig_settings.specs.Paths.{Path}
use Rattle.sig_settings.specs.Texts.{bearer_at, text_at}
use Rattle.sig_rxsettings.specs.Principals.{bearer_of}

-- a URL that spells an endpoint (RFC 3986, section 3)
abbrev pub endpoint_at : Data → Result Endpoint ValueFault
endpoint_at d = found (option_and_then endpoint_of (as_str d))

-- an object `{"bearer", "iss", "url"}`: the peer, without its gateway yet
abbrev pub peer_at : Data → Result Peer ValueFault
peer_at d = do
  whole ← is_whole d
  bearer ← member_at bearer_at (codes "bearer") d
  iss ← member_at text_at (codes "iss") d
  endpoint ← member_at endpoint_at (codes "url") d
  Ok (record { endpoint = endpoint; gateway = None; bearer = bearer; iss = iss })

-- where a member of the peer stands
abbrev pub peer_path : List ℕ → Path
peer_path name = Member (codes "poll") ∷ Member name ∷ []

-- the peer can be reached, where there is one: `https` needs the gateway
abbrev pub is_reached : Bool → Option Peer → Result (Unit {0}) SettingsFault
is_reached gateway None = Ok tt
is_reached gateway (Some peer) = if peer.endpoint.secure && not gateway then Err (told_of (Wrong (peer_path (codes "url")))) else Ok tt

-- whether the settings give a gateway, be it right or wrong
abbrev pub gives_gateway : Data → Bool
gives_gateway d = is_some (member_of (codes "tls_gateway") d)

-- the bearers that are read up to the principals: the reader's and theirs
abbrev pub read_before : List ℕ → List Principal → List (List ℕ)
read_before reader principals = reader ∷ map bearer_of principals

-- the peer's bearer, where there is a peer
abbrev pub placed_peer : Option Peer → List Placed
placed_peer None = []
placed_peer (Some peer) = record { bearer = peer.bearer; path = peer_path (codes "bearer") } ∷ []

-- the peer's bearer is none of those
abbrev pub has_own_bearer : List ℕ → List Principal → Option Peer → Result (Unit {0}) SettingsFault
has_own_bearer reader principals peer = differ (read_before reader principals) (placed_peer peer)

-- the member `poll` of settings with this reader and these principals
unfoldable pub peer_in : List ℕ → List Principal → Data → Result (Option Peer) SettingsFault
peer_in reader principals d = do
  peer ← optional peer_at (codes "poll") d
  reached ← is_reached (gives_gateway d) peer
  own ← has_own_bearer reader principals peer
  Ok peer

abbrev pub behind_gateway : Option Place → Peer → Peer
behind_gateway gateway peer = if peer.endpoint.secure then record peer { gateway = gateway } else peer

-- the peer, with the gateway where its endpoint is `https`
abbrev pub with_gateway : Option Place → Option Peer → Option Peer
with_gateway gateway peer = option_map (behind_gateway gateway) peer

-- a peer that is reached by `https` has its gateway
abbrev pub HasItsGateway : Peer → Type 0
HasItsGateway peer = peer.endpoint.secure ≡ true → IsSome peer.gateway
