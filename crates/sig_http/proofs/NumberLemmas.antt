-- A length that is written in decimal is read as that number.
use Rattle.std.proofs.Common.{◌≡◌, ◌≤◌, ◌<◌, ℕ, ◌+◌, ◌-◌, ◌*◌, ◌^◌, Bool, true, false, IsTrue, List, [], ◌∷◌, length, reverse, refl, sym, ◌∙◌, ap, arith, if◌then◌else◌}
use Rattle.std.specs.Prelude.{◌==◌, ◌&&◌, ◌||◌, nat_lt, nat_le, not, decimal, cond}
use Rattle.std.specs.Char.{digit_value, is_ascii_digit}
use Rattle.std.specs.Str.Parse.{AllDigits, digits_value_after}
use Rattle.std.proofs.Math.Bool.{or-true}
use Rattle.std.proofs.lemmas.Bool.{le-leb, lt-ltb, le-ltb}
use Rattle.std.proofs.lemmas.Fmt.{decimal_is_IsNumeral}
use Rattle.std.proofs.lemmas.Str.Parse.{digit_at}
use Rattle.std.proofs.lemmas.List.Elements.{All-head, All-cons, All-nil}
use Rattle.sig_json.specs.declared.limits.TheConstants.{RESPONSE_BODY_BYTES}
use Rattle.httparse.specs.Grammar.{AllPass, is_value_byte, is_ows, skip_ows, trim_ows}
use Rattle.httparse.proofs.TrimLemmas.{AllPass-reverse, trim_ows_space}
use Rattle.sig_http.proofs.WrittenLemmas.{differs}
use Rattle.sig_http.specs.Values.{is_number, is_digits, number_from, number_of}

-- ---- what digits are

digit_range : (c : ℕ) → digit_value c < 10 → (48 ≤ c) × (c ≤ 57)
digit_range c h = digit_at (c ∷ []) 0 (h, tt) (omega arith)

digit_is_value : (c : ℕ) → 48 ≤ c → c ≤ 57 → is_value_byte c ≡ true
digit_is_value c low high =
    ap (λ t. (c == 9) || (t && not (c == 127))) (le-leb 32 c (omega (arith, low)))
    ∙ ap (λ t. (c == 9) || not t) (differs c 127 (λ e. omega (arith, e, high)))
    ∙ or-true (c == 9)

digit_is_no_space : (c : ℕ) → 48 ≤ c → is_ows c ≡ false
digit_is_no_space c low =
    ap (λ t. t || (c == 9)) (differs c 32 (λ e. omega (arith, e, low))) ∙ differs c 9 (λ e. omega (arith, e, low))

digit_is_digit : (c : ℕ) → 48 ≤ c → c ≤ 57 → is_ascii_digit c ≡ true
digit_is_digit c low high = ap (λ t. t && nat_le c 57) (le-leb 48 c low) ∙ le-leb c 57 high

digit_is : (c : ℕ) → 48 ≤ c → c ≤ 57 → digit_value c ≡ c - 48
digit_is c low high =
    ap (λ t. cond t 36 (cond (nat_lt c 58) (c - 48) (cond (nat_lt c 65) 36 (cond (nat_lt c 91) (c - 55) (cond (nat_lt c 97) 36 (cond (nat_lt c 123) (c - 87) 36)))))) (le-ltb c 48 low)
    ∙ ap (λ t. cond t (c - 48) (cond (nat_lt c 65) 36 (cond (nat_lt c 91) (c - 55) (cond (nat_lt c 97) 36 (cond (nat_lt c 123) (c - 87) 36))))) (lt-ltb c 58 (omega (arith, high)))

-- ---- digits in a list

abbrev no_space : ℕ → Bool
no_space b = not (is_ows b)

pub digits_are_values : (ds : List ℕ) → AllDigits 10 ds → AllPass is_value_byte ds
digits_are_values [] h = All-nil (λ b. IsTrue (is_value_byte b))
digits_are_values (c ∷ ds) h =
    let r = digit_range c h.0 in
    All-cons (λ b. IsTrue (is_value_byte b)) c ds (digit_is_value c r.0 r.1) (digits_are_values ds h.1)

digits_have_no_space : (ds : List ℕ) → AllDigits 10 ds → AllPass no_space ds
digits_have_no_space [] h = All-nil (λ b. IsTrue (no_space b))
digits_have_no_space (c ∷ ds) h =
    let r = digit_range c h.0 in
    All-cons (λ b. IsTrue (no_space b)) c ds (ap not (digit_is_no_space c r.0)) (digits_have_no_space ds h.1)

pub digits_are_digits : (ds : List ℕ) → AllDigits 10 ds → is_digits ds ≡ true
digits_are_digits [] h = refl
digits_are_digits (c ∷ ds) h =
    let r = digit_range c h.0 in
    ap (λ t. t && is_digits ds) (digit_is_digit c r.0 r.1) ∙ digits_are_digits ds h.1

skips_nothing : (bytes : List ℕ) → AllPass no_space bytes → skip_ows bytes ≡ bytes
skips_nothing [] h = refl
skips_nothing (b ∷ bytes) h = by_test (is_ows b) refl (All-head (λ x. IsTrue (no_space x)) b bytes h)
  where
    by_test : (t : Bool) → is_ows b ≡ t → IsTrue (not t) → (if t then skip_ows bytes else b ∷ bytes) ≡ b ∷ bytes
    by_test false e n = refl
    by_test true e n = cc n

-- ---- the number

grows : (n : ℕ) (ds : List ℕ) → n ≤ digits_value_after 10 n ds
grows n [] = omega arith
grows n (c ∷ ds) = omega (arith, grows (n * 10 + digit_value c) ds)

number_goes : (n : ℕ) (ds : List ℕ) → AllDigits 10 ds → digits_value_after 10 n ds ≤ RESPONSE_BODY_BYTES → number_from n ds ≡ digits_value_after 10 n ds
number_goes n [] h few = refl
number_goes n (c ∷ ds) h few =
    let r = digit_range c h.0 in
    let up = grows (n * 10 + digit_value c) ds in
    ap (λ t. number_from (if t then n else n * 10 + (c - 48)) ds) (le-ltb RESPONSE_BODY_BYTES n (omega (arith, up, few)))
    ∙ ap (λ d. number_from (n * 10 + d) ds) (sym (digit_is c r.0 r.1))
    ∙ number_goes (n * 10 + digit_value c) ds h.1 few

-- ---- what is written of a number

pub decimal_values : (n : ℕ) → n < 2 ^ 64 → AllPass is_value_byte (decimal n)
decimal_values n few = digits_are_values (decimal n) (decimal_is_IsNumeral n few).0.1

pub decimal_trimmed : (n : ℕ) → n < 2 ^ 64 → trim_ows (32 ∷ decimal n) ≡ decimal n
decimal_trimmed n few =
    let pass = digits_have_no_space (decimal n) (decimal_is_IsNumeral n few).0.1 in
    trim_ows_space (decimal n) (skips_nothing (decimal n) pass) (skips_nothing (reverse (decimal n)) (AllPass-reverse no_space (decimal n) pass))

pub decimal_number : (n : ℕ) → n < 2 ^ 64 → is_number (decimal n) ≡ true
decimal_number n few =
    let d = (decimal_is_IsNumeral n few).0 in
    ap (λ t. t && is_digits (decimal n)) (lt-ltb 0 (length (decimal n)) d.0) ∙ digits_are_digits (decimal n) d.1

pub decimal_read : (n : ℕ) → n ≤ RESPONSE_BODY_BYTES → number_of (decimal n) ≡ n
decimal_read n few =
    let limit : RESPONSE_BODY_BYTES ≡ 524288 = refl in
    let d = decimal_is_IsNumeral n (omega (arith, few, limit)) in
    let is : digits_value_after 10 0 (decimal n) ≡ n = d.1 in
    number_goes 0 (decimal n) d.0.1 (omega (arith, is, few)) ∙ is
