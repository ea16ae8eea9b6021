-- What the values of fields are: numbers, words and lists of words.
use Rattle.std.specs.Prelude.{ℕ, ◌+◌, ◌-◌, ◌*◌, ◌==◌, nat_lt, nat_le, Bool, ◌&&◌, ◌||◌, List, [], ◌∷◌, take, drop, length, if◌then◌else◌, Option, Some, None, codes}
use Rattle.std.specs.List.{list_any, list_all, slice_split}
use Rattle.std.specs.Char.{is_ascii_digit}
use Rattle.std.specs.Str.{bytes_eq, str_eq_ignore_ascii_case}
use Rattle.sig_json.specs.declared.limits.TheConstants.{RESPONSE_BODY_BYTES}

-- a number with one more digit; one that passes the greatest limit stays, since it passes every limit
abbrev pub number_with : ℕ → ℕ → ℕ → ℕ
number_with base number digit = if nat_lt RESPONSE_BODY_BYTES number then number else number * base + digit

-- the byte lies between these two
abbrev pub is_between : ℕ → ℕ → ℕ → Bool
is_between low high b = nat_le low b && nat_le b high

-- what a hexadecimal digit stands for: `0` to `9`, `A` to `F`, `a` to `f`
abbrev pub hex_digit : ℕ → Option ℕ
hex_digit b =
    if is_between 48 57 b then Some (b - 48)
    else (if is_between 65 70 b then Some (b - 65 + 10) else (if is_between 97 102 b then Some (b - 97 + 10) else None))

-- each byte is a decimal digit
abbrev pub is_digits : List ℕ → Bool
is_digits bytes = list_all is_ascii_digit bytes

-- one or more decimal digits (RFC 9110, section 8.6)
abbrev pub is_number : List ℕ → Bool
is_number bytes = nat_lt 0 (length bytes) && is_digits bytes

abbrev pub number_from : ℕ → List ℕ → ℕ
number_from number [] = number
number_from number (d ∷ digits) = number_from (number_with 10 number (d - 48)) digits

-- the number that decimal digits write, or some number past every limit where theirs is
abbrev pub number_of : List ℕ → ℕ
number_of digits = number_from 0 digits

-- the digits from the first that isn't zero
abbrev pub skip_zeros : List ℕ → List ℕ
skip_zeros [] = []
skip_zeros (d ∷ digits) = if d == 48 then skip_zeros digits else d ∷ digits

-- both write one number, of whatever length: they differ in zeros at their start alone
abbrev pub is_same_number : List ℕ → List ℕ → Bool
is_same_number first second = bytes_eq (skip_zeros first) (skip_zeros second)

-- a space or a tab
abbrev pub is_blank : ℕ → Bool
is_blank b = b == 32 || b == 9

-- the bytes from the first that is no space or tab
abbrev pub skip_blank : List ℕ → List ℕ
skip_blank [] = []
skip_blank (b ∷ bytes) = if is_blank b then skip_blank bytes else b ∷ bytes

-- the token is `close` in any case, with spaces and tabs round it
abbrev pub is_close : List ℕ → Bool
is_close token =
    let rest = skip_blank token in
    str_eq_ignore_ascii_case (take 5 rest) (codes "close") && (length (skip_blank (drop 5 rest)) == 0)

-- the byte `,` between two words
abbrev pub is_comma : ℕ → Bool
is_comma b = b == 44

-- one of the words between commas is `close` (RFC 9112, section 9.6)
abbrev pub says_close : List ℕ → Bool
says_close value = list_any is_close (slice_split is_comma value)

-- what follows `Bearer` in any case and one space (RFC 6750, section 2.1)
abbrev pub after_bearer : List ℕ → Option (List ℕ)
after_bearer value = if str_eq_ignore_ascii_case (take 7 value) (codes "bearer ") then Some (drop 7 value) else None
