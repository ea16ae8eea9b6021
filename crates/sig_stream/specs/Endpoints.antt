-- What the URL of an endpoint says (RFC 3986, section 3; RFC 9110, section 4.2), in the form that is taken here.
use Rattle.std.specs.Prelude.{◌≡◌, ◌⊎◌, ◌↔◌, ◌≤◌, ◌<◌, ◌==◌, ◌&&◌, ◌||◌, ◌^◌, ℕ, List, [], ◌∷◌, ◌++◌, length, drop, Bool, true, false, nat_eq, nat_lt, Option, Some, None, option_and_then, option_map, codes, decimal, slice_index, if◌then◌else◌}
use Rattle.std.specs.Char.{is_ascii_alphanumeric, is_ascii_graphic}
use Rattle.std.specs.List.{list_all, starts_with, position_or_len, before_first, after_first}
use Rattle.std.specs.Str.{all_ascii_digits}
use Rattle.std.specs.Str.Parse.{digits_value}
use Rattle.sig_terms.specs.declared.endpoint.Endpoint.{Endpoint}

-- ---- the relation

-- how a URL begins (RFC 9110, sections 4.2.1 and 4.2.2)
abbrev pub scheme_of : Bool → List ℕ
scheme_of true = codes "https://"
scheme_of false = codes "http://"

-- the port of a URL that names none (RFC 9110, sections 4.2.1 and 4.2.2)
abbrev pub default_port : Bool → ℕ
default_port true = 443
default_port false = 80

-- an ASCII letter, a digit, `.` or `-`
abbrev pub is_host_byte : ℕ → Bool
is_host_byte b = is_ascii_alphanumeric b || b == 46 || b == 45

-- one or more such bytes
abbrev pub IsHost : List ℕ → Type 0
IsHost host = (0 < length host) × (list_all is_host_byte host ≡ true)

-- the text spells the port: none spells the scheme's, and else it is `:` and a port from 1 in decimal
abbrev pub SpellsPort : Bool → ℕ → List ℕ → Type 0
SpellsPort secure port text = ((text ≡ []) × (port ≡ default_port secure)) ⊎ ((text ≡ codes ":" ++ decimal port) × (1 ≤ port) × (port < 2 ^ 16))

-- the text spells the path: none spells `/`, and else it is the path, which begins with `/` and has visible ASCII alone
abbrev pub SpellsPath : List ℕ → List ℕ → Type 0
SpellsPath path text =
    ((text ≡ []) × (path ≡ codes "/")) ⊎ ((text ≡ path) × ((rest : List ℕ) × (path ≡ codes "/" ++ rest) × (list_all is_ascii_graphic rest ≡ true)))

-- a URL that spells an endpoint: scheme, host, port where there is one, path where there is one
pub record Spells (e : Endpoint) (url : List ℕ) : Type 0 where
  pub port : List ℕ
  pub path : List ℕ
  pub is : url ≡ scheme_of e.secure ++ e.place.host ++ port ++ path
  pub host : IsHost e.place.host
  pub spells_port : SpellsPort e.secure e.place.port port
  pub spells_path : SpellsPath e.path path

-- ---- the reading

-- whether it is secure, and what stands after the scheme
abbrev pub scheme_in : List ℕ → Option (Bool × List ℕ)
scheme_in url =
    if starts_with nat_eq url (scheme_of true) then Some (true, drop (length (scheme_of true)) url)
    else if starts_with nat_eq url (scheme_of false) then Some (false, drop (length (scheme_of false)) url)
    else None

abbrev pub is_slash : ℕ → Bool
is_slash b = b == 47

abbrev pub is_colon : ℕ → Bool
is_colon b = b == 58

-- what stands from the first slash on, nothing where there is none
abbrev pub from_slash : List ℕ → List ℕ
from_slash text = drop (position_or_len is_slash text) text

-- a number from 1 to 65535, in decimal without leading zeros
abbrev pub number_in : List ℕ → Option ℕ
number_in text =
    if nat_lt 48 (slice_index text 0) && all_ascii_digits text && nat_lt (digits_value 10 text) (2 ^ 16) then Some (digits_value 10 text) else None

-- the port of an authority: the number after its first colon, and that of the scheme where there is none
abbrev pub port_in : Bool → List ℕ → Option ℕ
port_in secure authority =
    if nat_lt (position_or_len is_colon authority) (length authority) then number_in (after_first is_colon authority) else Some (default_port secure)

-- the path of a text that is empty or begins with a slash
abbrev pub path_in : List ℕ → List ℕ
path_in [] = codes "/"
path_in (b ∷ bs) = b ∷ bs

abbrev pub is_host : List ℕ → Bool
is_host host = nat_lt 0 (length host) && list_all is_host_byte host

-- the endpoint at an authority and a path
abbrev pub endpoint_at : Bool → List ℕ → List ℕ → Option Endpoint
endpoint_at secure authority path =
    if is_host (before_first is_colon authority) && list_all is_ascii_graphic path
    then option_map (λ port. record { secure = secure; place = record { host = before_first is_colon authority; port = port }; path = path_in path })
    (port_in secure authority)
    else None

-- the endpoint of what stands after a scheme: the authority ends at the first slash
abbrev pub endpoint_behind : Bool × List ℕ → Option Endpoint
endpoint_behind s = endpoint_at s.0 (before_first is_slash s.1) (from_slash s.1)

-- the endpoint that a URL spells, where it spells one
unfoldable pub endpoint_of : List ℕ → Option Endpoint
endpoint_of url = option_and_then endpoint_behind (scheme_in url)

-- ---- the law

-- the reading and the relation agree
abbrev pub ReadsEndpoints : Type 0
ReadsEndpoints = (url : List ℕ) (e : Endpoint) → Spells e url ↔ (endpoint_of url ≡ Some e)
