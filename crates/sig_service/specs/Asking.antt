-- The words of `init`, `serve`, `receive`, `fetch`, `courier` and `manage`.
use Rattle.std.specs.Prelude.{ℕ, List, [], ◌∷◌, ◌&&◌, Option, None, Some, option_and_then, option_map, bytes_eq, codes, if◌then◌else◌, nat_le, nat_lt, slice_index}
use Rattle.std.specs.Str.{all_ascii_digits}
use Rattle.std.specs.Str.Parse.{digits_value}
use Rattle.uuid.specs.Text.{parsed}
use Rattle.sig_json.specs.declared.limits.TheConstants.{LAST_NUMBER}
use Rattle.sig_journal.specs.declared.kind.Kind.{Kind}
use Rattle.sig_journal.specs.declared.kind.Kind.TheVariants.{Tx, Rx}
use Rattle.sig_program.specs.Command.{is_filled}
use Rattle.sig_service.specs.declared.asking.Server.{Server}
use Rattle.sig_service.specs.declared.asking.Server.TheVariants.{Transmitter, Receiver}

-- ---- `init`

-- what `init` is asked for: whose store it is to be, its name and its id
pub record Asked : Type 0 where
  pub kind : Kind
  pub store : List ℕ
  pub store_id : List ℕ

abbrev pub kind_of : List ℕ → Option Kind
kind_of word = if bytes_eq word (codes "tx") then Some Tx else if bytes_eq word (codes "rx") then Some Rx else None

-- `<tx or rx> <store> <store id>`, with a name that isn't empty and an id as a UUID
abbrev pub ask_of : List ℕ → List ℕ → List ℕ → Option Asked
ask_of kind store store_id =
    if is_filled store
    then option_and_then (λ k. option_map (λ id. record { kind = k; store = store; store_id = id }) (parsed store_id)) (kind_of kind)
    else None

-- the words after the name
abbrev pub init_words : List (List ℕ) → Option Asked
init_words [] = None
init_words (kind ∷ []) = None
init_words (kind ∷ store ∷ []) = None
init_words (kind ∷ store ∷ store_id ∷ []) = ask_of kind store store_id
init_words (kind ∷ store ∷ store_id ∷ more ∷ words) = None

-- what words ask `init` for; none where they don't
abbrev pub init_of : List (List ℕ) → Option Asked
init_of [] = None
init_of (name ∷ words) = if bytes_eq name (codes "init") then init_words words else None

-- ---- commands over settings and a store

-- what they are asked for: the settings and the store, by their names, and how many watches or rounds
pub record StoreAsked : Type 0 where
  pub settings : List ℕ
  pub store : List ℕ
  pub count : ℕ

-- a number up to LAST_NUMBER
abbrev pub within : ℕ → Option ℕ
within n = if nat_le n LAST_NUMBER then Some n else None

-- a number from 1 to LAST_NUMBER, in decimal without leading zeros
abbrev pub count_of : List ℕ → Option ℕ
count_of word = if nat_lt 48 (slice_index word 0) && all_ascii_digits word then within (digits_value 10 word) else None

-- `<settings> <store> <count>`, with names that aren't empty
abbrev pub store_ask_of : List ℕ → List ℕ → List ℕ → Option StoreAsked
store_ask_of settings store count =
    if is_filled settings && is_filled store
    then option_map (λ n. record { settings = settings; store = store; count = n }) (count_of count)
    else None

-- the words after the name
abbrev pub store_words : List (List ℕ) → Option StoreAsked
store_words [] = None
store_words (settings ∷ []) = None
store_words (settings ∷ store ∷ []) = None
store_words (settings ∷ store ∷ count ∷ []) = store_ask_of settings store count
store_words (settings ∷ store ∷ count ∷ more ∷ words) = None

-- ---- `serve` and `receive`

-- whose server is asked for, and over what
pub record ServerAsked : Type 0 where
  pub server : Server
  pub over : StoreAsked

abbrev pub server_named : List ℕ → Option Server
server_named name = if bytes_eq name (codes "serve") then Some Transmitter else if bytes_eq name (codes "receive") then Some Receiver else None

-- what words ask a server for; none where they don't
abbrev pub server_of : List (List ℕ) → Option ServerAsked
server_of [] = None
server_of (name ∷ words) = option_and_then (λ s. option_map (λ o. record { server = s; over = o }) (store_words words)) (server_named name)

-- ---- `fetch`

-- what words ask `fetch` for; none where they don't
abbrev pub fetch_of : List (List ℕ) → Option StoreAsked
fetch_of [] = None
fetch_of (name ∷ words) = if bytes_eq name (codes "fetch") then store_words words else None

-- ---- `courier`

-- what it is asked for: the settings and the store, by their names
pub record CourierAsked : Type 0 where
  pub settings : List ℕ
  pub store : List ℕ

-- `<settings> <store>`, with names that aren't empty
abbrev pub courier_ask_of : List ℕ → List ℕ → Option CourierAsked
courier_ask_of settings store = if is_filled settings && is_filled store then Some (record { settings = settings; store = store }) else None

-- the words after the name
abbrev pub courier_words : List (List ℕ) → Option CourierAsked
courier_words [] = None
courier_words (settings ∷ []) = None
courier_words (settings ∷ store ∷ []) = courier_ask_of settings store
courier_words (settings ∷ store ∷ more ∷ words) = None

-- what words ask `courier` for; none where they don't
abbrev pub courier_of : List (List ℕ) → Option CourierAsked
courier_of [] = None
courier_of (name ∷ words) = if bytes_eq name (codes "courier") then courier_words words else None

-- ---- `manage`

-- a name that isn't empty
abbrev pub filled : List ℕ → Option (List ℕ)
filled word = if is_filled word then Some word else None

-- the words after the name: the settings, by their name
abbrev pub manage_words : List (List ℕ) → Option (List ℕ)
manage_words [] = None
manage_words (settings ∷ []) = filled settings
manage_words (settings ∷ more ∷ words) = None

-- what words ask `manage` for; none where they don't
abbrev pub manage_of : List (List ℕ) → Option (List ℕ)
manage_of [] = None
manage_of (name ∷ words) = if bytes_eq name (codes "manage") then manage_words words else None
