-- How claims are written as a token, and which claims are proper (RFC 8417, section 2; RFC 7515, section 7.1).
use Rattle.std.specs.Prelude.{◌≡◌, ℕ, List, [], ◌∷◌, Option, Some, None, codes, length, map, nat_le, if◌then◌else◌, Result, Ok, Err}
use Rattle.serde_json.specs.Data.{Data, array, string, number, unsigned, object, Members, no_members, member, put}
use Rattle.serde_json.specs.View.{items_of}
use Rattle.serde_json.specs.Written.{compact_text}
use Rattle.sig_json.specs.Canon.{without_fraction}
use Rattle.sig_json.specs.Json.{json_of}
use Rattle.sig_json.specs.declared.limits.TheConstants.{TOKEN_BYTES}
use Rattle.sig_jws.specs.Compact.{signed}
use Rattle.sig_jws.specs.declared.key.Key.{Key}
use Rattle.sig_subject.specs.Written.{subject_data}
use Rattle.sig_event.specs.declared.claims.Claims.{Claims}
use Rattle.sig_event.specs.declared.event.Event.{Event}
use Rattle.sig_event.specs.Events as events
use Rattle.sig_set.specs.declared.writing.WriteFault.{WriteFault}
use Rattle.sig_set.specs.declared.writing.WriteFault.TheVariants.{TooLong}
use Rattle.sig_set.specs.Claims.{ClaimsAre}

-- the audience: a text where there is one, else a list (RFC 7519, section 4.1.3)
abbrev pub audience_data : List (List ℕ) → Data
audience_data [] = array (items_of [])
audience_data (text ∷ []) = string text
audience_data (text ∷ other ∷ texts) = array (items_of (map string (text ∷ other ∷ texts)))

-- events put under their URIs, one after another
abbrev pub put_events : List Event → Members → Members
put_events [] members = members
put_events (e ∷ es) members = put_events es (put (events.uri_of e) (without_fraction (events.payload_of e)) members)

-- the payload (RFC 8417, section 2.2), with its members in byte order
abbrev pub payload_of : Claims → Data
payload_of claims = object
    (member (codes "aud") (audience_data claims.aud)
    (member (codes "events") (object (put_events claims.events no_members))
    (member (codes "iat") (number (unsigned claims.iat))
    (member (codes "iss") (string claims.iss)
    (member (codes "jti") (string claims.jti)
    (member (codes "sub_id") (without_fraction (subject_data claims.subject)) no_members))))))

abbrev pub payload_text_of : Claims → List ℕ
payload_text_of claims = compact_text (payload_of claims)

-- the type of a token (RFC 8417, section 2.3)
abbrev pub typed : Members
typed = member (codes "typ") (string (codes "secevent+jwt")) no_members

-- the key's name, where it has one (RFC 7515, section 4.1.4)
abbrev pub with_kid : Option (List ℕ) → Members → Members
with_kid None members = members
with_kid (Some kid) members = member (codes "kid") (string kid) members

-- the header (RFC 8417, section 2.3; RFC 7518, section 3.2), with its members in byte order
abbrev pub header_of : Option (List ℕ) → Data
header_of kid = object (member (codes "alg") (string (codes "HS256")) (with_kid kid typed))

abbrev pub header_text_of : Option (List ℕ) → List ℕ
header_text_of kid = compact_text (header_of kid)

-- the token: header and payload, signed under the key (RFC 7515, section 7.1)
abbrev pub token_text : Claims → Key → List ℕ
token_text claims key = signed (header_text_of key.kid) (payload_text_of claims) key.bytes

-- a text, or how many bytes it has where they are too many
abbrev pub within_limit : List ℕ → Result (List ℕ) WriteFault
within_limit text = if nat_le (length text) TOKEN_BYTES then Ok text else Err (TooLong (length text))

-- what is written of claims under a key
abbrev pub written_of : Claims → Key → Result (List ℕ) WriteFault
written_of claims key = within_limit (token_text claims key)

-- the payload's text spells a value that says these claims
pub record IsProperClaims (claims : Claims) : Type 0 where
  pub value : Data
  pub spelled : json_of (payload_text_of claims) ≡ Some value
  pub says : ClaimsAre claims value
