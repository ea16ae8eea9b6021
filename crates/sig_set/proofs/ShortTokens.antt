-- How long a token is: four symbols for three bytes of its header, its payload and its MAC.
use Rattle.std.proofs.Common.{◌≡◌, ◌∙◌, ap, ap₂, subst, sym, ℕ, ◌+◌, ◌*◌, ◌/◌, ◌<◌, ◌≤◌, ◌==◌, ◌&&◌, ◌||◌, List, [], ◌∷◌, ◌++◌, length, Bool, true, false, Option, Some, None, IfSome, refl, arith, length-append, append-nil}
use Rattle.std.specs.Prelude.{nat_eq, nat_lt, not, Ok}
use Rattle.std.specs.List.{list_all, list_any}
use Rattle.std.proofs.lemmas.Bool.{and_parts, eqb-true, eqb-false, le-leb, ltb-true, not-true}
use Rattle.base64.specs.Engines.{url_safe_no_pad}
use Rattle.base64.specs.Rfc4648.{encode_symbols}
use Rattle.base64.proofs.RoundTrip.{length-encode_symbols}
use Rattle.sha2.proofs.Facts256.{length-sha256}
use Rattle.json.specs.Print.{escape, escape_byte}
use Rattle.json.proofs.Printed.Strings.{escape_byte_plain}
use Rattle.sig_json.specs.declared.limits.TheConstants.{TOKEN_BYTES}
use Rattle.sig_jws.specs.Compact.{base64url, dot, input_of, signed}
use Rattle.sig_jws.specs.Hmac.{hmac_of}
use Rattle.sig_set.specs.Laws.{AreShortEnough, IsShortName, name_bytes}
use Rattle.sig_set.specs.Written.{header_text_of, payload_text_of, token_text, within_limit}

-- ---- the three parts

length-base64url : (bytes : List ℕ) → length (base64url bytes) ≡ (4 * length bytes + 2) / 3
length-base64url bytes = rw (append-nil (encode_symbols url_safe_no_pad.encode_table bytes)) (length-encode_symbols url_safe_no_pad.encode_table bytes)

length-hmac_of : (key message : List ℕ) → length (hmac_of key message) ≡ 32
unfolding hmac_of
length-hmac_of key message = length-sha256 _

-- the dots and the MAC take 45 bytes
length-signed : (header payload key : List ℕ) → length (signed header payload key) ≡ (4 * length header + 2) / 3 + (4 * length payload + 2) / 3 + 45
unfolding signed
length-signed header payload key =
    let h = length-base64url header in
    let p = length-base64url payload in
    let size = length-hmac_of key (input_of header payload) in
    let m : length (base64url (hmac_of key (input_of header payload))) ≡ 43 = length-base64url (hmac_of key (input_of header payload)) ∙ rw size refl in
    let input : length (input_of header payload) ≡ length (base64url header) + (1 + length (base64url payload)) = length-append (base64url header) (dot ∷ base64url payload) ∙ omega arith in
    length-append (input_of header payload) (dot ∷ base64url (hmac_of key (input_of header payload))) ∙ omega (arith, h, p, m, input)

-- ---- the header

length-header : (kid : List ℕ) → length (header_text_of (Some kid)) ≡ 45 + length (escape kid)
unfolding escape_byte
length-header kid = simp length-append (omega arith)

length-nameless : length (header_text_of None) ≡ 36
unfolding escape_byte
length-nameless = refl

-- none of these characters has an escape
abbrev are_plain : List ℕ → Bool
are_plain [] = true
are_plain (x ∷ xs) = nat_lt 34 x && not (x == 92) && are_plain xs

one_plain : (x : ℕ) (names : List ℕ) → are_plain names ≡ true → list_any (nat_eq x) names ≡ true → escape_byte x ≡ x ∷ []
one_plain x [] all is = cc is
one_plain x (name ∷ names) all is =
    let both = and_parts (nat_lt 34 name && not (name == 92)) (are_plain names) all in
    let each = and_parts (nat_lt 34 name) (not (name == 92)) both.0 in
    let above : 34 < name = ltb-true 34 name each.0 in
    let other : name ≡ 92 → ⊥ = eqb-false name 92 (not-true (name == 92) each.1) in
    at (nat_eq x name) refl is (escape_byte_plain name (λ e. omega arith) other (omega arith)) (λ h. one_plain x names both.1 h)
  where
    at : (b : Bool) → nat_eq x name ≡ b → b || list_any (nat_eq x) names ≡ true → escape_byte name ≡ name ∷ []
        → (list_any (nat_eq x) names ≡ true → escape_byte x ≡ x ∷ []) → escape_byte x ≡ x ∷ []
    at true same h plain rest = subst (λ (n : ℕ). escape_byte n ≡ n ∷ []) (sym (eqb-true x name same)) plain
    at false other h plain rest = rest h

escape_plain : (name : List ℕ) → list_all (λ b. list_any (nat_eq b) name_bytes) name ≡ true → escape name ≡ name
escape_plain [] h = refl
escape_plain (x ∷ name) h =
    let both = and_parts (list_any (nat_eq x) name_bytes) (list_all (λ b. list_any (nat_eq b) name_bytes) name) h in
    ap₂ (λ (a b : List ℕ). a ++ b) (one_plain x name_bytes refl both.0) (escape_plain name both.1)

header_short : (kid : Option (List ℕ)) → IfSome kid IsShortName → length (header_text_of kid) ≤ 109
header_short None h = omega (arith, length-nameless)
header_short (Some kid) h = omega (arith, length-header kid, ap length (escape_plain kid h.plain), h.short)

-- ---- the token

kept_whole : (text : List ℕ) → length text ≤ TOKEN_BYTES → within_limit text ≡ Ok text
kept_whole text h = rw (le-leb (length text) TOKEN_BYTES h) refl

pub short_enough : AreShortEnough
short_enough claims key small kid =
    let header = header_short key.kid kid in
    let size = length-signed (header_text_of key.kid) (payload_text_of claims) key.bytes in
    kept_whole (token_text claims key) (omega (arith, header, size, small))
