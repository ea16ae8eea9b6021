-- The issuers that a receiver trusts.
use Rattle.std.specs.Prelude.{ℕ, ◌&&◌, List, [], ◌∷◌, length, Bool, nat_le, nat_lt, Result, Ok, Err, codes, if◌then◌else◌}
use Rattle.serde_json.specs.Data.{Data}
use Rattle.sig_json.specs.declared.limits.TheConstants.{ISSUERS, KEYS_PER_ISSUER}
use Rattle.sig_jws.specs.declared.key.Key.{Key}
use Rattle.sig_rs256.specs.Keys.{PublicKey}
use Rattle.sig_set.specs.declared.trust.Issuer.{Issuer}
use Rattle.sig_stream.specs.Steps.{◌>>=◌}
use Rattle.sig_settings.specs.declared.fault.ValueFault.{ValueFault}
use Rattle.sig_settings.specs.Lists.{each_once, list_at}
use Rattle.sig_settings.specs.Members.{is_whole, itself, member_at}
use Rattle.sig_settings.specs.Texts.{text_at}
use Rattle.sig_rxsettings.specs.declared.key.IssuerKey.{IssuerKey}
use Rattle.sig_rxsettings.specs.declared.key.IssuerKey.TheVariants.{Public, Secret}
use Rattle.sig_rxsettings.specs.Keys.{issuer_key_at}

-- ---- keys

-- one to four keys, of both kinds together
abbrev pub are_some : List IssuerKey → Bool
are_some keys = nat_lt 0 (length keys) && nat_le (length keys) KEYS_PER_ISSUER

abbrev pub where_some : List IssuerKey → Result (List IssuerKey) ValueFault
where_some keys = if are_some keys then Ok keys else Err itself

abbrev pub keys_at : Data → Result (List IssuerKey) ValueFault
keys_at d = list_at issuer_key_at d >>= where_some

-- the secrets among keys, in their order
abbrev pub secrets_in : List IssuerKey → List Key
secrets_in [] = []
secrets_in (Secret key ∷ keys) = key ∷ secrets_in keys
secrets_in (Public key ∷ keys) = secrets_in keys

-- the public keys among keys, in their order
abbrev pub publics_in : List IssuerKey → List PublicKey
publics_in [] = []
publics_in (Secret key ∷ keys) = publics_in keys
publics_in (Public key ∷ keys) = key ∷ publics_in keys

-- ---- issuers

abbrev pub with_keys : List ℕ → List IssuerKey → Issuer
with_keys iss keys = record { iss = iss; keys = secrets_in keys; public_keys = publics_in keys }

-- an object `{"iss", "keys"}`
abbrev pub issuer_at : Data → Result Issuer ValueFault
issuer_at d = do
  whole ← is_whole d
  iss ← member_at text_at (codes "iss") d
  keys ← member_at keys_at (codes "keys") d
  Ok (with_keys iss keys)

abbrev pub name_of : Issuer → List ℕ
name_of i = i.iss

-- at most 64 issuers with names of their own
abbrev pub are_apart : List Issuer → Bool
are_apart issuers = nat_le (length issuers) ISSUERS && each_once name_of issuers

abbrev pub where_apart : List Issuer → Result (List Issuer) ValueFault
where_apart issuers = if are_apart issuers then Ok issuers else Err itself

abbrev pub issuers_at : Data → Result (List Issuer) ValueFault
issuers_at d = list_at issuer_at d >>= where_apart
