-- Ports in decimal.
use Rattle.std.proofs.Common.{◌≡◌, ◌∙◌, ap, sym, ℕ, zero, suc, ◌<◌, ◌≤◌, ◌^◌, List, ◌∷◌, [], Bool, true, false, Option, Some, None, refl, arith, length, decimal}
use Rattle.std.specs.Prelude.{Result, Ok, Err, nat_lt, ◌&&◌, if◌then◌else◌, slice_index}
use Rattle.std.specs.Result.{OkIff, result_ok}
use Rattle.std.specs.Str.{all_ascii_digits}
use Rattle.std.specs.Str.Parse.{ParsesUnsigned, digits_value}
use Rattle.std.proofs.lemmas.Str.Parse.{IsNumeralModel, numerals_by_value, tells_all_ascii_digits, parse_plain}
use Rattle.std.proofs.lemmas.Fmt.{decimal-digits_value, decimal_is_IsNumeral, digits_decimal, first_decimal, decimal_digit}
use Rattle.std.proofs.lemmas.Bool.{ltb-true, lt-ltb}
use Rattle.sig_stream.specs.Endpoints.{number_in}

-- digits as std has them
pub own : IsNumeralModel (λ ds. all_ascii_digits ds ≡ true) (digits_value 10)
own = numerals_by_value _ tells_all_ascii_digits

filled : (ds : List ℕ) → 48 < slice_index ds 0 → 0 < length ds
filled [] h = absurd (omega (arith, h))
filled (d ∷ ds) h = omega arith

-- the number of digits that begin with none of zero
numbered : (ds : List ℕ) → 48 < slice_index ds 0 → all_ascii_digits ds ≡ true → digits_value 10 ds < 2 ^ 16 → number_in ds ≡ Some (digits_value 10 ds)
numbered ds first digits low = rw (lt-ltb 48 (slice_index ds 0) first, digits, lt-ltb (digits_value 10 ds) (2 ^ 16) low) refl

-- where there is no number, one of its three conditions fails
unnumbered : (a b c : Bool) (n : ℕ) (P : Type 0) → (a ≡ true → b ≡ true → c ≡ true → P) → (P → ⊥) → ◌≡◌ {A = Option ℕ} None (if a && b && c then Some n else None)
unnumbered false b c n P f none = refl
unnumbered true false c n P f none = refl
unnumbered true true false n P f none = refl
unnumbered true true true n P f none = absurd (none (f refl refl refl))

-- what is parsed of a text that begins with no zero and no sign
pub parsed_port : {E : Type 0} (word : List ℕ) (r : Result ℕ E) → 48 < slice_index word 0 → ParsesUnsigned 16 10 word r → result_ok r ≡ number_in word
parsed_port {E = E} word r first h = at r (parse_plain own 16 word r h (λ e. omega (arith, first, e)))
  where
    at : (r : Result ℕ E) → OkIff r ((all_ascii_digits word ≡ true) × (0 < length word) × (digits_value 10 word < 2 ^ 16)) (digits_value 10 word) → result_ok r ≡ number_in word
    at (Ok n) p = ap Some p.1 ∙ sym (numbered word first p.0.0 p.0.2)
    at (Err e) none =
        unnumbered (nat_lt 48 (slice_index word 0)) (all_ascii_digits word) (nat_lt (digits_value 10 word) (2 ^ 16)) (digits_value 10 word)
        ((all_ascii_digits word ≡ true) × (0 < length word) × (digits_value 10 word < 2 ^ 16))
        (λ a b c. (b, filled word first, ltb-true (digits_value 10 word) (2 ^ 16) c)) none

-- the number of a port's decimal text
pub number_decimal : (n : ℕ) → 1 ≤ n → n < 2 ^ 16 → number_in (decimal n) ≡ Some n
number_decimal n low high =
    let value : digits_value 10 (decimal n) ≡ n = (decimal_is_IsNumeral n (omega (arith, high))).1 in
    numbered (decimal n) (first_decimal n low (omega (arith, high))) (digits_decimal own n (omega (arith, high))) (omega (arith, value, high)) ∙ ap Some value

some_if : (a b c : Bool) (m n : ℕ) → ◌≡◌ {A = Option ℕ} (if a && b && c then Some m else None) (Some n) → (a ≡ true) × (b ≡ true) × (c ≡ true) × (m ≡ n)
some_if false b c m n h = cc
some_if true false c m n h = cc
some_if true true false m n h = cc
some_if true true true m n h = (refl, refl, refl, cc)

-- a text with a number is its decimal text
pub decimal_number : (text : List ℕ) (n : ℕ) → number_in text ≡ Some n → (text ≡ decimal n) × (1 ≤ n) × (n < 2 ^ 16)
decimal_number text n h =
    let p = some_if (nat_lt 48 (slice_index text 0)) (all_ascii_digits text) (nat_lt (digits_value 10 text) (2 ^ 16)) (digits_value 10 text) n h in
    let first : 48 < slice_index text 0 = ltb-true 48 (slice_index text 0) p.0 in
    let low : digits_value 10 text < 2 ^ 16 = ltb-true (digits_value 10 text) (2 ^ 16) p.2 in
    let value : digits_value 10 text ≡ n = p.3 in
    let whole : decimal (digits_value 10 text) ≡ text = decimal-digits_value own text p.1 (filled text first) (λ e. absurd (omega (arith, first, e))) (omega (arith, low)) in
    (sym whole ∙ ap decimal value, positive n (ap decimal (sym value) ∙ whole) first, omega (arith, low, value))
  where
    positive : (n : ℕ) → decimal n ≡ text → 48 < slice_index text 0 → 1 ≤ n
    positive zero e first =
        let zeros : text ≡ 48 ∷ [] = sym e ∙ decimal_digit 0 (omega arith) in
        absurd (omega (arith, ap (λ t. slice_index t 0) zeros, first))
    positive (suc n) e first = omega arith
