-- The name of a publication is a UUID with hyphens and in lower case.
use Rattle.std.proofs.Common.{◌≡◌, ◌∙◌, ap, sym, ℕ, ◌<◌, ◌≤◌, ◌*◌, ◌+◌, List, Bool, true, false, Option, Some, None, refl, inl, inr, arith, true≢false, length, get_or, take, drop}
use Rattle.std.specs.Prelude.{◌&&◌, ◌||◌, ◌==◌, ◌⊎◌, IfSome, nat_le, option_and_then, option_map, slice_index, codes, if◌then◌else◌}
use Rattle.std.specs.List.{All, list_all}
use Rattle.std.proofs.lemmas.Bool.{and_parts, leb-true, le-leb, lt-leb}
use Rattle.std.proofs.lemmas.List.Folds.{list_all_at}
use Rattle.serde_json.specs.Data.{Data}
use Rattle.uuid.specs.Text.{by_index, byte_of_digits, close_brace, digits_of, has_urn_prefix, hyphenated_text, is_hex_digit, lower, open_brace, parsed, parsed_braced, parsed_hyphenated, parsed_simple, parsed_urn, value_of}
use Rattle.uuid.proofs.RoundTrips.{parses_hyphenated}
use Rattle.uuid.proofs.TextLemmas.{by_index_at, by_index_length}
use Rattle.sig_json.specs.Json.{text_member}
use Rattle.sig_stream.specs.Publications.{IsPublishId, publish_id_of}

either : (x y : Bool) → x || y ≡ true → (x ≡ true) ⊎ (y ≡ true)
either true y h = inl refl
either false y h = inr h

-- the value of a digit
low_digit : (c : ℕ) → (nat_le 48 c && nat_le c 57) ≡ true → value_of c < 16
low_digit c h =
    let high : c ≤ 57 = leb-true c 57 (and_parts (nat_le 48 c) (nat_le c 57) h).1 in
    rw (le-leb c 57 high) (omega (arith, high))

small_letter : (c : ℕ) → (nat_le 97 c && nat_le c 102) ≡ true → value_of c < 16
small_letter c h =
    let p = and_parts (nat_le 97 c) (nat_le c 102) h in
    let low : 97 ≤ c = leb-true 97 c p.0 in
    let high : c ≤ 102 = leb-true c 102 p.1 in
    rw (lt-leb c 57 (omega (arith, low)), p.0) (omega (arith, low, high))

great_letter : (c : ℕ) → (nat_le 65 c && nat_le c 70) ≡ true → value_of c < 16
great_letter c h =
    let p = and_parts (nat_le 65 c) (nat_le c 70) h in
    let low : 65 ≤ c = leb-true 65 c p.0 in
    let high : c ≤ 70 = leb-true c 70 p.1 in
    rw (lt-leb c 57 (omega (arith, low)), lt-leb 97 c (omega (arith, high))) (omega (arith, low, high))

digit_low : (c : ℕ) → is_hex_digit c ≡ true → value_of c < 16
digit_low c h =
    elim (either ((nat_le 48 c && nat_le c 57) || (nat_le 97 c && nat_le c 102)) (nat_le 65 c && nat_le c 70) h) [
      | inl k ↦ elim (either (nat_le 48 c && nat_le c 57) (nat_le 97 c && nat_le c 102) k) [ inl d ↦ low_digit c d | inr d ↦ small_letter c d ]
      | inr k ↦ great_letter c k
    ]

-- sixteen bytes
abbrev IsUuid : List ℕ → Type 0
IsUuid u = (length u ≡ 16) × All (λ b. b < 256) u

digit_at : (hex : List ℕ) (k : ℕ) → list_all is_hex_digit hex ≡ true → k < length hex → is_hex_digit (get_or hex k 0) ≡ true
digit_at hex k all low = at (is_hex_digit (get_or hex k 0)) refl
  where
    at : (t : Bool) → is_hex_digit (get_or hex k 0) ≡ t → t ≡ true
    at true is = refl
    at false is = absurd (true≢false (sym all ∙ list_all_at is_hex_digit hex k 0 low is))

bytes_are : (hex : List ℕ) → 32 ≤ length hex → list_all is_hex_digit hex ≡ true → IsUuid (by_index 16 (byte_of_digits hex))
bytes_are hex long all =
    let size : length (by_index 16 (byte_of_digits hex)) ≡ 16 = by_index_length 16 (byte_of_digits hex) in
    (size, λ k d low. small k d (omega (arith, low, size)))
  where
    small : (k d : ℕ) → k < 16 → get_or (by_index 16 (byte_of_digits hex)) k d < 256
    small k d low =
        let first : value_of (get_or hex (2 * k) 0) < 16 = digit_low (get_or hex (2 * k) 0) (digit_at hex (2 * k) all (omega (arith, low, long))) in
        let second : value_of (get_or hex (2 * k + 1) 0) < 16 = digit_low (get_or hex (2 * k + 1) 0) (digit_at hex (2 * k + 1) all (omega (arith, low, long))) in
        rw (by_index_at 16 (byte_of_digits hex) k d low) (omega (arith, first, second))

pick : (b : Bool) (x y : Option (List ℕ)) → IfSome x IsUuid → IfSome y IsUuid → IfSome (if b then x else y) IsUuid
pick true x y h k = h
pick false x y h k = k

long : (n : ℕ) → (n == 32) ≡ true → 32 ≤ n
long n h = grind (arith, h)

simple_is : (hex : List ℕ) → IfSome (parsed_simple hex) IsUuid
simple_is hex = at ((length hex == 32) && list_all is_hex_digit hex) refl
  where
    at : (t : Bool) → ((length hex == 32) && list_all is_hex_digit hex) ≡ t → IfSome (if t then Some (by_index 16 (byte_of_digits hex)) else None) IsUuid
    at true is = let p = and_parts (length hex == 32) (list_all is_hex_digit hex) is in bytes_are hex (long (length hex) p.0) p.1
    at false is = tt

hyphenated_is : (s : List ℕ) → IfSome (parsed_hyphenated s) IsUuid
hyphenated_is s = pick _ (parsed_simple (digits_of s)) None (simple_is (digits_of s)) tt

braced_is : (s : List ℕ) → IfSome (parsed_braced s) IsUuid
braced_is s =
    pick ((length s == 38) && (slice_index s 0 == open_brace) && (slice_index s 37 == close_brace)) (parsed_hyphenated (take 36 (drop 1 s))) None
    (hyphenated_is (take 36 (drop 1 s))) tt

urn_is : (s : List ℕ) → IfSome (parsed_urn s) IsUuid
urn_is s = pick ((length s == 45) && has_urn_prefix s) (parsed_hyphenated (drop 9 s)) None (hyphenated_is (drop 9 s)) tt

parsed_is : (s : List ℕ) → IfSome (parsed s) IsUuid
parsed_is s =
    pick (length s == 32) (parsed_simple s) _ (simple_is s)
    (pick (length s == 36) (parsed_hyphenated s) _ (hyphenated_is s)
    (pick (length s == 38) (parsed_braced s) _ (braced_is s)
    (pick (length s == 45) (parsed_urn s) None (urn_is s) tt)))

-- the name that is kept
pub is_publish_id : (body : Data) (id : List ℕ) → publish_id_of body ≡ Some id → IsPublishId id
is_publish_id body id h = outer (text_member (codes "publish_id") body) h
  where
    inner : (o : Option (List ℕ)) → IfSome o IsUuid → option_map (hyphenated_text lower) o ≡ Some id → IsPublishId id
    inner None is h = cc
    inner (Some u) is h =
        let same : hyphenated_text lower u ≡ id = cc in
        (u, ap parsed (sym same) ∙ sym (parses_hyphenated lower u (inl refl) is.0 is.1), sym same)

    outer : (o : Option (List ℕ)) → option_map (hyphenated_text lower) (option_and_then parsed o) ≡ Some id → IsPublishId id
    outer None h = cc
    outer (Some text) h = inner (parsed text) (parsed_is text) h
