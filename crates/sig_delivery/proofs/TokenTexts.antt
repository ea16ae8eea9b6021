-- A signed token is written in a JSON string as it is: no byte of it is escaped (RFC 4648, section 5; RFC 8259, section 7).
use Rattle.std.proofs.Common.{◌≡◌, ℕ, zero, suc, ◌<◌, ◌*◌, ◌+◌, ◌/◌, ◌%◌, List, [], ◌∷◌, ◌++◌, Bool, true, ◌&&◌, refl, sym, ap, ap₂, ◌∙◌, arith, inl, inr, slice_index, append_assoc}
use Rattle.std.specs.Str.{bytes_eq}
use Rattle.std.proofs.lemmas.Slice.Eq.{bytes_eq-Decides}
use Rattle.std.proofs.lemmas.Bool.{and_parts, cases_eq}
use Rattle.base64.specs.Engines.{url_safe_no_pad}
use Rattle.base64.specs.GeneralPurpose.{IsBytes, engine_symbols}
use Rattle.base64.specs.Rfc4648.{encode_symbols}
use Rattle.json.specs.Print.{escape, escape_byte, quoted}
use Rattle.sig_jws.specs.Compact.{base64url, dot, input_of, signed}
use Rattle.sig_jws.specs.Hmac.{hmac_of}
use Rattle.sig_jws.proofs.DigestLemmas.{IsBytes-hmac_of}

escape-append : (xs ys : List ℕ) → escape (xs ++ ys) ≡ escape xs ++ escape ys
escape-append [] ys = refl
escape-append (x ∷ xs) ys = ap (λ l. escape_byte x ++ l) (escape-append xs ys) ∙ sym (append_assoc (escape_byte x) _ _)

-- it is written as it is
abbrev IsPlain : List ℕ → Type 0
IsPlain xs = escape xs ≡ xs

plain-append : (xs ys : List ℕ) → IsPlain xs → IsPlain ys → IsPlain (xs ++ ys)
plain-append xs ys h k = escape-append xs ys ∙ ap₂ (λ (a b : List ℕ). a ++ b) h k

-- the symbols of six bits
abbrev symbols : List ℕ
symbols = engine_symbols url_safe_no_pad

-- each of the symbols is written as it is
abbrev plain_below : ℕ → Bool
plain_below zero = true
plain_below (suc n) = bytes_eq (escape (slice_index symbols n ∷ [])) (slice_index symbols n ∷ []) && plain_below n

all_plain : plain_below 64 ≡ true
unfolding escape_byte
all_plain = refl

below : (n : ℕ) → plain_below n ≡ true → (i : ℕ) → i < n → IsPlain (slice_index symbols i ∷ [])
below zero e i h = absurd (omega arith)
below (suc n) e i h =
    let this = slice_index symbols n ∷ [] in
    let p = and_parts (bytes_eq (escape (slice_index symbols n ∷ [])) (slice_index symbols n ∷ [])) (plain_below n) e in
    elim (cases_eq i n) [
      | inl same ↦ rw same ((bytes_eq-Decides (escape this) this).0 p.0)
      | inr other ↦ below n p.1 i (omega arith)
    ]

symbol : (i : ℕ) → i < 64 → IsPlain (slice_index symbols i ∷ [])
symbol i h = below 64 all_plain i h

symbol_then : (i : ℕ) (rest : List ℕ) → i < 64 → IsPlain rest → IsPlain (slice_index symbols i ∷ rest)
symbol_then i rest h k = plain-append (slice_index symbols i ∷ []) rest (symbol i h) k

rest_bytes : (a : ℕ) (xs : List ℕ) → IsBytes (a ∷ xs) → IsBytes xs
rest_bytes a xs h i = h (suc i)

symbols_plain : (m : List ℕ) → IsBytes m → IsPlain (encode_symbols symbols m)
unfolding encode_symbols
symbols_plain [] h = refl
symbols_plain (a ∷ []) h =
    let small : a < 256 = h 0 in
    symbol_then (a / 4) _ (omega arith) (symbol (a % 4 * 16) (omega arith))
symbols_plain (a ∷ b ∷ []) h =
    let small : a < 256 = h 0 in
    let low : b < 256 = h 1 in
    symbol_then (a / 4) _ (omega arith) (symbol_then (a % 4 * 16 + b / 16) _ (omega arith) (symbol (b % 16 * 4) (omega arith)))
symbols_plain (a ∷ b ∷ c ∷ rest) h =
    let small : a < 256 = h 0 in
    let low : b < 256 = h 1 in
    let last : c < 256 = h 2 in
    let more = symbols_plain rest (λ i. h (suc (suc (suc i)))) in
    symbol_then (a / 4) _ (omega arith) (symbol_then (a % 4 * 16 + b / 16) _ (omega arith) (symbol_then (b % 16 * 4 + c / 64) _ (omega arith) (symbol_then (c % 64) _ (omega arith) more)))

encoded_plain : (m : List ℕ) → IsBytes m → IsPlain (base64url m)
encoded_plain m h = plain-append (encode_symbols symbols m) [] (symbols_plain m h) refl

dot_plain : IsPlain (dot ∷ [])
unfolding escape_byte
dot_plain = refl

joined_plain : (xs ys : List ℕ) → IsPlain xs → IsPlain ys → IsPlain (xs ++ dot ∷ ys)
joined_plain xs ys h k = plain-append xs (dot ∷ ys) h (plain-append (dot ∷ []) ys dot_plain k)

signed_plain : (header payload key : List ℕ) → IsBytes header → IsBytes payload → IsPlain (signed header payload key)
unfolding signed
signed_plain header payload key h k =
    joined_plain (input_of header payload) (base64url (hmac_of key (input_of header payload)))
    (joined_plain (base64url header) (base64url payload) (encoded_plain header h) (encoded_plain payload k))
    (encoded_plain (hmac_of key (input_of header payload)) (IsBytes-hmac_of key (input_of header payload)))

-- a signed token in a JSON string
pub quoted_token : (header payload key : List ℕ) → IsBytes header → IsBytes payload → quoted (signed header payload key) ≡ 34 ∷ (signed header payload key ++ 34 ∷ [])
quoted_token header payload key h k = ap (λ s. 34 ∷ (s ++ 34 ∷ [])) (signed_plain header payload key h k)
