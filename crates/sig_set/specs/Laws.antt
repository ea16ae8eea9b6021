-- What holds of tokens that are written, and of tokens that are read.
use Rattle.std.specs.Prelude.{◌≡◌, ◌<◌, ◌≤◌, ◌⊎◌, ℕ, List, [], ◌∷◌, ◌++◌, true, nat_eq, All, Contains, Option, Some, None, IfSome, IsUtf8, codes, length, Ok}
use Rattle.std.specs.List.{list_all, list_any}
use Rattle.base64.specs.GeneralPurpose.{IsBytes}
use Rattle.serde_json.specs.Data.{Data, depth}
use Rattle.serde_json.specs.Read.{max_depth}
use Rattle.sig_json.specs.declared.limits.TheConstants.{KEY_NAME_BYTES, LAST_NUMBER, PAYLOAD_BYTES, TOKEN_BYTES}
use Rattle.sig_json.specs.Json.{json_of, member_of, text_member}
use Rattle.sig_jws.specs.Compact.{base64url, dot, input_of, signed, split_of}
use Rattle.sig_jws.specs.Hmac.{hmac_of}
use Rattle.sig_jws.specs.declared.compact.Compact.{Compact}
use Rattle.sig_jws.specs.declared.key.Key.{Key}
use Rattle.sig_rs256.specs.Keys.{PublicKey}
use Rattle.sig_rs256.specs.Signatures.{IsSignature}
use Rattle.sig_subject.specs.Written.{IsProperSubject}
use Rattle.sig_event.specs.Events.{IsProperEvent, uri_of}
use Rattle.sig_event.specs.declared.claims.Claims.{Claims}
use Rattle.sig_event.specs.declared.event.Event.{Event}
use Rattle.sig_set.specs.declared.trust.Issuer.{Issuer}
use Rattle.sig_set.specs.declared.trust.Trust.{Trust}
use Rattle.sig_set.specs.Claims.{ClaimsAre}
use Rattle.sig_set.specs.Header.{is_candidate, has_token_type}
use Rattle.sig_set.specs.Judgement.{Valid, issuer_named, judged}
use Rattle.sig_set.specs.Reading.{claims_read}
use Rattle.sig_set.specs.Written.{IsProperClaims, payload_of, payload_text_of, token_text, written_of}

-- claims with one event: texts in UTF-8, an identifier that isn't empty, a time that is taken, a proper subject, a proper
-- event about it, and a payload that nests no deeper than is read
pub record HasParts (claims : Claims) (e : Event) : Type 0 where
  pub iss : IsUtf8 claims.iss
  pub jti : IsUtf8 claims.jti
  pub identified : 0 < length claims.jti
  pub taken : claims.iat ≤ LAST_NUMBER
  pub aud : All IsUtf8 claims.aud
  pub subject : IsProperSubject claims.subject
  pub one : claims.events ≡ e ∷ []
  pub uri : IsUtf8 (uri_of e)
  pub event : IsProperEvent e claims.subject
  pub nests : depth (payload_of claims) ≤ max_depth

-- such claims are proper
abbrev pub AreProperByParts : Type 0
AreProperByParts = (claims : Claims) (e : Event) → HasParts claims e → IsProperClaims claims

-- the claims are for the trust's own name, and by an issuer of it, one of whose keys this is
pub record IsTrusted (trust : Trust) (claims : Claims) (key : Key) : Type 0 where
  pub audience : Contains claims.aud trust.audience
  pub issuer : Issuer
  pub known : issuer_named claims.iss trust.issuers ≡ Some issuer
  pub keys : Contains issuer.keys key

-- no name, or this one
abbrev pub IsNameOr : Option (List ℕ) → List ℕ → Type 0
IsNameOr named jti = (name : List ℕ) → named ≡ Some name → name ≡ jti

-- the header's `alg` is this text (RFC 7515, section 4.1.1)
abbrev pub SaysAlgorithm : Data → List ℕ → Type 0
SaysAlgorithm head name = text_member (codes "alg") head ≡ Some name

-- by HS256 (RFC 7518, section 3.2): the text is the signing of header and payload under a secret of the issuer that the
-- header allows
pub record IsUnderSecret (issuer : Issuer) (head : Data) (header payload text : List ℕ) : Type 0 where
  pub algorithm : SaysAlgorithm head (codes "HS256")
  pub key : Key
  pub keys : Contains issuer.keys key
  pub candidate : is_candidate (member_of (codes "kid") head) key.kid ≡ true
  pub signing : text ≡ signed header payload key.bytes

-- by RS256 (RFC 7518, section 3.3): the text is the compact form of header, payload and a signature of these under a public
-- key of the issuer that the header allows
pub record IsUnderPublicKey (issuer : Issuer) (head : Data) (header payload text : List ℕ) : Type 0 where
  pub algorithm : SaysAlgorithm head (codes "RS256")
  pub key : PublicKey
  pub keys : Contains issuer.public_keys key
  pub candidate : is_candidate (member_of (codes "kid") head) key.kid ≡ true
  pub signature : List ℕ
  pub signing : IsSignature key (input_of header payload) signature
  pub spelled : text ≡ input_of header payload ++ dot ∷ base64url signature

-- who signed the text, by the algorithm that its header says
pub data SignedBy (issuer : Issuer) (head : Data) (header payload text : List ℕ) : Type 0 where
  UnderSecret : IsUnderSecret issuer head header payload text → SignedBy issuer head header payload text
  UnderPublicKey : IsUnderPublicKey issuer head header payload text → SignedBy issuer head header payload text

-- a token is valid with these claims: its text has a header and a payload and was signed, as the header says, by a key that
-- may have signed it, of the first issuer named as the claims' issuer, who is the principal; the claims are for the
-- receiver; they are what the payload says; and the token goes under their identifier or no name (RFC 8417, section 2; RFC
-- 7515, section 5.2)
pub record IsValid (trust : Trust) (principal named : Option (List ℕ)) (text : List ℕ) (claims : Claims) : Type 0 where
  pub short : length text ≤ TOKEN_BYTES
  pub header : List ℕ
  pub payload : List ℕ
  pub head : Data
  pub header_spells : json_of header ≡ Some head
  pub typed : has_token_type (Some head) ≡ true
  pub extended : member_of (codes "crit") head ≡ None
  pub issuer : Issuer
  pub known : issuer_named claims.iss trust.issuers ≡ Some issuer
  pub signer : SignedBy issuer head header payload text
  pub speaks : principal ≡ Some claims.iss
  pub audience : Contains claims.aud trust.audience
  pub body : Data
  pub payload_spells : json_of payload ≡ Some body
  pub says : ClaimsAre claims body
  pub name : IsNameOr named claims.jti

-- what is judged valid with claims is valid with them in that sense
abbrev pub IsValidWhereJudged : Type 0
IsValidWhereJudged =
    (trust : Trust) (principal named : Option (List ℕ)) (text : List ℕ) (claims : Claims)
    → IsBytes text → judged trust principal named text ≡ Valid claims → IsValid trust principal named text claims

-- by its header's algorithm alone a token was signed with a secret of the issuer, or with a key whose public half the issuer
-- has; so none by an algorithm for which the issuer has no key (RFC 8725, section 3.1)
pub record IsUnderItsAlgorithm (issuer : Issuer) (token : Compact) (head : Data) : Type 0 where
  pub known : SaysAlgorithm head (codes "HS256") ⊎ SaysAlgorithm head (codes "RS256")
  pub secret : SaysAlgorithm head (codes "HS256") → (key : Key) × Contains issuer.keys key × (token.mac ≡ hmac_of key.bytes token.input)
  pub public_key : SaysAlgorithm head (codes "RS256") → (key : PublicKey) × Contains issuer.public_keys key × IsSignature key token.input token.mac
  pub no_secret : issuer.keys ≡ [] → ¬ (SaysAlgorithm head (codes "HS256"))
  pub no_public_key : issuer.public_keys ≡ [] → ¬ (SaysAlgorithm head (codes "RS256"))

-- each token that is judged valid is so
abbrev pub AreUnderTheirAlgorithm : Type 0
AreUnderTheirAlgorithm =
    (trust : Trust) (principal named : Option (List ℕ)) (text : List ℕ) (claims : Claims) (issuer : Issuer) (token : Compact) (head : Data)
    → issuer_named claims.iss trust.issuers ≡ Some issuer → split_of text ≡ Ok token → json_of token.header ≡ Some head
    → judged trust principal named text ≡ Valid claims → IsUnderItsAlgorithm issuer token head

-- what is written of proper claims is valid with these claims, for the issuer and under their identifier or no name
abbrev pub AreJudgedValid : Type 0
AreJudgedValid =
    (trust : Trust) (named : Option (List ℕ)) (claims : Claims) (key : Key) (text : List ℕ)
    → IsProperClaims claims → IfSome key.kid IsUtf8 → IsTrusted trust claims key → IsNameOr named claims.jti
    → written_of claims key ≡ Ok text → judged trust (Some claims.iss) named text ≡ Valid claims

-- the claims of a token that is valid are read of its text
abbrev pub AreRead : Type 0
AreRead =
    (trust : Trust) (principal named : Option (List ℕ)) (text : List ℕ) (claims : Claims)
    → judged trust principal named text ≡ Valid claims → claims_read text ≡ Ok claims

-- the characters of a key's name
abbrev pub name_bytes : List ℕ
name_bytes = codes "ABCDEFGHIJKLMNOPQRSTUVWXYZabcdefghijklmnopqrstuvwxyz0123456789._-"

-- no more of these characters than a key's name may have
pub record IsShortName (name : List ℕ) : Type 0 where
  pub short : length name ≤ KEY_NAME_BYTES
  pub plain : list_all (λ b. list_any (nat_eq b) name_bytes) name ≡ true

-- claims with a payload within its limit are written under any key with such a name or none
abbrev pub AreShortEnough : Type 0
AreShortEnough =
    (claims : Claims) (key : Key) → length (payload_text_of claims) ≤ PAYLOAD_BYTES → IfSome key.kid IsShortName
    → written_of claims key ≡ Ok (token_text claims key)
