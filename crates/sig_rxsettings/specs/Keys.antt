-- The keys of an issuer: a secret `{"k", "kid"}`, or a public key `{"kty", "alg", "kid", "n", "e"}` of RSA (RFC 7517, section 4; RFC 7518,
-- section 6.3.1).
use Rattle.std.specs.Prelude.{ℕ, ◌||◌, List, Bool, bytes_eq, is_some, codes, Option, None, Result, Ok, Err, if◌then◌else◌}
use Rattle.serde_json.specs.Data.{Data}
use Rattle.sig_json.specs.Answers.{result_map}
use Rattle.sig_json.specs.Json.{member_of}
use Rattle.sig_rs256.specs.Keys.{PublicKey}
use Rattle.sig_set.specs.RsaWords.{rsa_key_word}
use Rattle.sig_stream.specs.Steps.{◌>>=◌}
use Rattle.sig_settings.specs.declared.fault.ValueFault.{ValueFault}
use Rattle.sig_settings.specs.declared.path.Step.TheVariants.{Member}
use Rattle.sig_settings.specs.Keys.{key_at, key_name_at}
use Rattle.sig_settings.specs.Members.{deeper, found, is_whole, itself, member_at, optional_at, under}
use Rattle.sig_settings.specs.Texts.{text_at, text_where}
use Rattle.sig_rxsettings.specs.declared.key.IssuerKey.{IssuerKey}
use Rattle.sig_rxsettings.specs.declared.key.IssuerKey.TheVariants.{Public, Secret}

-- ---- a public key

-- the type and the algorithm that are taken
abbrev pub is_rsa : List ℕ → Bool
is_rsa text = bytes_eq text (codes "RSA")

abbrev pub is_rs256 : List ℕ → Bool
is_rs256 text = bytes_eq text (codes "RS256")

-- a member that may not be there
abbrev pub absent : List ℕ → Data → Result (Unit {0}) ValueFault
absent name d = if is_some (member_of name d) then Err (deeper (Member name) itself) else Ok tt

-- a word of a modulus: with 65,537 for an exponent it makes a key
abbrev pub is_modulus_word : List ℕ → Bool
is_modulus_word n = is_some (rsa_key_word None n (codes "AQAB"))

-- what the object is of, and no secret stands in it
abbrev pub is_rs256_key : Data → Result (Unit {0}) ValueFault
is_rs256_key d = do
  whole ← is_whole d
  kty ← member_at (text_where is_rsa) (codes "kty") d
  alg ← member_at (text_where is_rs256) (codes "alg") d
  absent (codes "k") d

-- the key of this name with this modulus and the exponent that the member `e` spells
abbrev pub with_exponent : Data → Option (List ℕ) → List ℕ → Result PublicKey ValueFault
with_exponent d kid n = do
  e ← member_at text_at (codes "e") d
  under (Member (codes "e")) (found (rsa_key_word kid n e))

abbrev pub rsa_key_at : Data → Result PublicKey ValueFault
rsa_key_at d = do
  rs256 ← is_rs256_key d
  kid ← optional_at key_name_at (codes "kid") d
  n ← member_at (text_where is_modulus_word) (codes "n") d
  with_exponent d kid n

-- ---- a key of either kind

-- an object with a type of key or a modulus is read as a public key
abbrev pub names_public : Data → Bool
names_public d = is_some (member_of (codes "kty") d) || is_some (member_of (codes "n") d)

abbrev pub issuer_key_at : Data → Result IssuerKey ValueFault
issuer_key_at d = if names_public d then result_map (λ key. Public key) (rsa_key_at d) else result_map (λ key. Secret key) (key_at d)
