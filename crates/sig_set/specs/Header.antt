-- What a token's header tells (RFC 7515, section 4.1; RFC 8417, section 2.3).
use Rattle.std.specs.Prelude.{ℕ, List, Bool, true, false, ◌&&◌, ◌||◌, if◌then◌else◌, Option, Some, None, bytes_eq, codes, option_and_then}
use Rattle.std.specs.List.{list_any}
use Rattle.std.specs.Str.{str_eq_ignore_ascii_case}
use Rattle.serde_json.specs.Data.{Data}
use Rattle.serde_json.specs.Find.{as_str}
use Rattle.sig_json.specs.Json.{member_of, text_member}
use Rattle.sig_jws.specs.Hmac.{hmac_of}
use Rattle.sig_jws.specs.declared.compact.Compact.{Compact}
use Rattle.sig_jws.specs.declared.key.Key.{Key}
use Rattle.sig_rs256.specs.Keys.{PublicKey}
use Rattle.sig_rs256.specs.Signatures.{is_signature}
use Rattle.sig_set.specs.declared.header.Algorithm.{Algorithm}
use Rattle.sig_set.specs.declared.header.Algorithm.TheVariants.{Hs256, Rs256}
use Rattle.sig_set.specs.Tests.{where_there}

-- the type of a security event token, in any ASCII case and with or without the prefix of its media type (RFC 7515,
-- section 4.1.9)
abbrev pub is_token_type : List ℕ → Bool
is_token_type text =
    str_eq_ignore_ascii_case text (codes "secevent+jwt") || str_eq_ignore_ascii_case text (codes "application/secevent+jwt")

-- the header says that it is a token
abbrev pub has_token_type : Option Data → Bool
has_token_type header = where_there is_token_type (option_and_then (text_member (codes "typ")) header)

-- ---- the algorithm

-- the algorithm of this name (RFC 7518, section 3.1)
abbrev pub algorithm_named : List ℕ → Option Algorithm
algorithm_named name =
    if bytes_eq name (codes "HS256") then Some Hs256 else if bytes_eq name (codes "RS256") then Some Rs256 else None

-- the header's `alg` (RFC 7515, section 4.1.1)
abbrev pub algorithm_in : Option Data → Option Algorithm
algorithm_in header = option_and_then algorithm_named (option_and_then (text_member (codes "alg")) header)

-- ---- which keys may have signed a token, by their names

-- whether a header that names a key so may mean a key of this name: a text means the key of that name and every key
-- without one, anything else means none
abbrev pub means_key : Option (List ℕ) → Option (List ℕ) → Bool
means_key None kid = false
means_key (Some name) None = true
means_key (Some name) (Some kid) = bytes_eq name kid

-- whether a key of this name may have signed a token whose header has this `kid`; without one every key may (RFC 7515,
-- section 4.1.4)
abbrev pub is_candidate : Option Data → Option (List ℕ) → Bool
is_candidate None name = true
is_candidate (Some d) name = means_key (as_str d) name

-- the header's `kid`
abbrev pub kid_in : Option Data → Option Data
kid_in header = option_and_then (member_of (codes "kid")) header

-- some key of the list may have signed it, by what names a key
abbrev pub has_candidate : {K : Type 0} → (K → Option (List ℕ)) → Option Data → List K → Bool
has_candidate {K} name kid keys = list_any (λ (key : K). is_candidate kid (name key)) keys

-- one that may have signed it did, by what names a key and what tells that it signed
abbrev pub is_verified : {K : Type 0} → (K → Option (List ℕ)) → (K → Bool) → Option Data → List K → Bool
is_verified {K} name signed kid keys = list_any (λ (key : K). is_candidate kid (name key) && signed key) keys

-- ---- by HS256

abbrev pub secret_name : Key → Option (List ℕ)
secret_name key = key.kid

-- the third part of a compact form is the MAC under this secret (RFC 7515, section 5.2; RFC 7518, section 3.2)
abbrev pub has_mac : Option Compact → Key → Bool
has_mac None key = false
has_mac (Some c) key = bytes_eq c.mac (hmac_of key.bytes c.input)

-- ---- by RS256

abbrev pub public_name : PublicKey → Option (List ℕ)
public_name key = key.kid

-- the third part of a compact form is a signature under this public key (RFC 7515, section 5.2; RFC 7518, section 3.3)
abbrev pub has_signature : Option Compact → PublicKey → Bool
has_signature None key = false
has_signature (Some c) key = is_signature key c.input c.mac

-- ---- by the header's algorithm, which picks the list

-- some key of the algorithm's list may have signed it
abbrev pub may_be_signed : Option Algorithm → Option Data → List Key → List PublicKey → Bool
may_be_signed None kid secrets public_keys = false
may_be_signed (Some Hs256) kid secrets public_keys = has_candidate secret_name kid secrets
may_be_signed (Some Rs256) kid secrets public_keys = has_candidate public_name kid public_keys

-- one of that list that may have signed it did
abbrev pub is_signed : Option Algorithm → Option Compact → Option Data → List Key → List PublicKey → Bool
is_signed None token kid secrets public_keys = false
is_signed (Some Hs256) token kid secrets public_keys = is_verified secret_name (has_mac token) kid secrets
is_signed (Some Rs256) token kid secrets public_keys = is_verified public_name (has_signature token) kid public_keys
