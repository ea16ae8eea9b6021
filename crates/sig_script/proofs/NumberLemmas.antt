-- The numbers of lines as they are parsed.
use Rattle.std.proofs.Common.{◌≡◌, ◌∙◌, ap, sym, subst, ℕ, suc, ◌-◌, ◌<◌, ◌≤◌, ◌^◌, ◌==◌, List, [], ◌∷◌, Bool, true, false, Option, Some, None, refl, inl, inr, arith, true≢false, drop}
use Rattle.std.specs.Prelude.{Result, Ok, Err, cond, nat_lt, nat_le, not, ◌&&◌, option_and_then, if◌then◌else◌}
use Rattle.std.specs.List.{list_all}
use Rattle.std.specs.Result.{result_ok}
use Rattle.std.specs.Char.{digit_value}
use Rattle.std.specs.Str.Parse.{AllDigits, IsNumeral, ParsesUnsigned, digits_value, without_leading_plus}
use Rattle.std.proofs.lemmas.Bool.{and_parts, leb-true, le-leb, lt-leb}
use Rattle.std.proofs.lemmas.Bool.Decides.{leb_tells}
use Rattle.sig_json.specs.declared.limits.TheConstants.{LAST_NUMBER}
use Rattle.sig_script.specs.Numbers.{is_decimal, is_digit, number_of, within}

-- a digit is below ten
digit_small : (b : ℕ) → is_digit b ≡ true → digit_value b < 10
digit_small b h =
    let p = and_parts (nat_le 48 b) (nat_le b 57) h in
    let low : 48 ≤ b = leb-true 48 b p.0 in
    let high : b ≤ 57 = leb-true b 57 p.1 in
    let first : nat_lt b 48 ≡ false = lt-leb (suc b) 48 (omega (arith, low)) in
    let second : nat_lt b 58 ≡ true = le-leb (suc b) 58 (omega (arith, high)) in
    let value : digit_value b ≡ b - 48 =
    ap (λ t. cond t 36 (cond (nat_lt b 58) (b - 48) (cond (nat_lt b 65) 36 (cond (nat_lt b 91) (b - 55) (cond (nat_lt b 97) 36 (cond (nat_lt b 123) (b - 87) 36)))))) first
    ∙ ap (λ t. cond t (b - 48) (cond (nat_lt b 65) 36 (cond (nat_lt b 91) (b - 55) (cond (nat_lt b 97) 36 (cond (nat_lt b 123) (b - 87) 36))))) second in
    omega (arith, value, low, high)

digits_small : (bs : List ℕ) → list_all is_digit bs ≡ true → AllDigits 10 bs
digits_small [] h = tt
digits_small (b ∷ bs) h = let p = and_parts (is_digit b) (list_all is_digit bs) h in (digit_small b p.0, digits_small bs p.1)

-- a digit is no plus
digit_plain : (b : ℕ) → is_digit b ≡ true → (b == 43) ≡ false
digit_plain b h =
    let p = and_parts (nat_le 48 b) (nat_le b 57) h in
    let low : 48 ≤ b = leb-true 48 b p.0 in
    grind (arith, low)

-- the digits of a number without leading zeros
decimal_digits : (bs : List ℕ) → is_decimal bs ≡ true → list_all is_digit bs ≡ true
decimal_digits [] h = refl
decimal_digits (b ∷ []) h = ap (λ t. t && true) h
decimal_digits (b ∷ c ∷ bs) h = (and_parts (not (b == 48)) (list_all is_digit (b ∷ c ∷ bs)) h).1

-- such a number is a numeral, with no sign before it
numeral : (bs : List ℕ) → is_decimal bs ≡ true → IsNumeral 10 bs × (without_leading_plus bs ≡ bs)
numeral [] h = absurd (true≢false (sym h))
numeral (b ∷ bs) h =
    let all : list_all is_digit (b ∷ bs) ≡ true = decimal_digits (b ∷ bs) h in
    let plain : (b == 43) ≡ false = digit_plain b (and_parts (is_digit b) (list_all is_digit bs) all).0 in
    ((omega arith, digits_small (b ∷ bs) all), ap (λ t. drop (cond t 1 0) (b ∷ bs)) plain)

-- what is parsed of such a number, up to the limit
pub parsed_number : {E : Type 0} (word : List ℕ) (r : Result ℕ E) → is_decimal word ≡ true → ParsesUnsigned 64 10 word r
    → option_and_then within (result_ok r) ≡ number_of word
parsed_number word (Ok n) h p =
    let is = numeral word h in
    ap within (p.1 ∙ ap (digits_value 10) is.1) ∙ ap (λ t. if t then within (digits_value 10 word) else None) (sym h)
parsed_number word (Err e) h p =
    let is = numeral word h in
    let great : (digits_value 10 word < 2 ^ 64) → ⊥ = λ small. p (subst (λ bs. IsNumeral 10 bs × (digits_value 10 bs < 2 ^ 64)) (sym is.1) (is.0, small)) in
    let past : LAST_NUMBER < digits_value 10 word = over_last (digits_value 10 word) great in
    sym (ap (λ t. if t then Some (digits_value 10 word) else None) (lt-leb (digits_value 10 word) LAST_NUMBER past))
    ∙ ap (λ t. if t then within (digits_value 10 word) else None) (sym h)
  where
    over_last : (n : ℕ) → (n < 2 ^ 64 → ⊥) → LAST_NUMBER < n
    over_last n h = elim (leb_tells (2 ^ 64) n) [ inl p ↦ omega (arith, p.1) | inr p ↦ absurd (h p.1) ]

none_some : (n : ℕ) → (let o : Option ℕ = None in o ≡ Some n) → ⊥
none_some n h = cc h

some_same : (m n : ℕ) → (let o : Option ℕ = Some m in o ≡ Some n) → m ≡ n
some_same m n h = cc h

-- a number that a word is isn't too great
pub number_within : (word : List ℕ) (n : ℕ) → number_of word ≡ Some n → n ≤ LAST_NUMBER
number_within word n h = by_decimal (is_decimal word) h
  where
    by_limit : (m : ℕ) (t : Bool) → nat_le m LAST_NUMBER ≡ t → (if t then Some m else None) ≡ Some n → n ≤ LAST_NUMBER
    by_limit m true is e = subst (λ k. k ≤ LAST_NUMBER) (some_same m n e) (leb-true m LAST_NUMBER is)
    by_limit m false is e = absurd (none_some n e)

    by_decimal : (t : Bool) → (if t then within (digits_value 10 word) else None) ≡ Some n → n ≤ LAST_NUMBER
    by_decimal true e = by_limit (digits_value 10 word) (nat_le (digits_value 10 word) LAST_NUMBER) refl e
    by_decimal false e = absurd (none_some n e)
