-- The kinds of fields: how each is spelled, and how it is read. Numbers are big-endian.
--
--     byte            one byte
--     number          eight bytes
--     count           four bytes
--     text            a count and so many bytes of UTF-8
--     flag            00 or 01
--     maybe X         00, or 01 and X
--     list X          a count and so many X
use Rattle.std.specs.Prelude.{◌^◌, ◌%◌, ◌==◌, ◌&&◌, ℕ, zero, suc, List, [], ◌∷◌, ◌++◌, length, take, drop, flat_map, Bool, true, false, nat_le, Option, Some, None, Result, Ok, Err, if◌then◌else◌}
use Rattle.std.specs.Int.{from_be_bytes, to_be_bytes, w32, w64}
use Rattle.std.specs.Str.{is_utf8}
use Rattle.sig_fields.specs.Reading.{given, ruled, ◌>>=◌}

-- ---- how fields are spelled

abbrev pub number_bytes : ℕ → List ℕ
number_bytes n = to_be_bytes w64 n

-- a count of 2^32 or more can't be spelled: what is left of it by 2^32 is
abbrev pub count_bytes : ℕ → List ℕ
count_bytes n = to_be_bytes w32 (n % (2 ^ 32))

abbrev pub text_bytes : List ℕ → List ℕ
text_bytes text = count_bytes (length text) ++ text

abbrev pub byte_bytes : ℕ → List ℕ
byte_bytes b = b ∷ []

abbrev pub flag_byte : Bool → ℕ
flag_byte false = 0
flag_byte true = 1

abbrev pub flag_bytes : Bool → List ℕ
flag_bytes b = byte_bytes (flag_byte b)

abbrev pub maybe_bytes : {T : Type 0} → (T → List ℕ) → Option T → List ℕ
maybe_bytes spelled None = flag_bytes false
maybe_bytes spelled (Some x) = flag_bytes true ++ spelled x

abbrev pub list_bytes : {T : Type 0} → (T → List ℕ) → List T → List ℕ
list_bytes spelled xs = count_bytes (length xs) ++ flat_map spelled xs

-- ---- how they are read

abbrev pub byte : List ℕ → Result (ℕ × List ℕ) (List ℕ)
byte [] = Err []
byte (b ∷ rest) = Ok (b, rest)

abbrev pub number : List ℕ → Result (ℕ × List ℕ) (List ℕ)
number bytes = if nat_le 8 (length bytes) then Ok (from_be_bytes w64 (take 8 bytes), drop 8 bytes) else Err bytes

abbrev pub count : List ℕ → Result (ℕ × List ℕ) (List ℕ)
count bytes = if nat_le 4 (length bytes) then Ok (from_be_bytes w32 (take 4 bytes), drop 4 bytes) else Err bytes

-- the count in the first four bytes
abbrev pub size_in : List ℕ → ℕ
size_in bytes = from_be_bytes w32 (take 4 bytes)

-- a count and so many bytes, which are one part
abbrev pub sized : List ℕ → Result (List ℕ × List ℕ) (List ℕ)
sized bytes =
    if nat_le 4 (length bytes) && nat_le (size_in bytes) (length (drop 4 bytes)) then Ok (take (size_in bytes) (drop 4 bytes), drop (size_in bytes) (drop 4 bytes)) else Err bytes

abbrev pub utf8_in : List ℕ → Option (List ℕ)
utf8_in bytes = if is_utf8 bytes then Some bytes else None

abbrev pub text : List ℕ → Result (List ℕ × List ℕ) (List ℕ)
text = ruled utf8_in sized

abbrev pub flag_in : ℕ → Option Bool
flag_in b = if b == 0 then Some false else if b == 1 then Some true else None

abbrev pub flag : List ℕ → Result (Bool × List ℕ) (List ℕ)
flag = ruled flag_in byte

-- the number, where it is no greater than this
abbrev pub at_most : ℕ → ℕ → Option ℕ
at_most most n = if nat_le n most then Some n else None

abbrev pub number_up_to : ℕ → List ℕ → Result (ℕ × List ℕ) (List ℕ)
number_up_to most = ruled (at_most most) number

abbrev pub maybe_after : {T : Type 0} → (List ℕ → Result (T × List ℕ) (List ℕ)) → Bool → List ℕ → Result (Option T × List ℕ) (List ℕ)
maybe_after read false = given None
maybe_after read true = do
  x ← read
  given (Some x)

abbrev pub maybe : {T : Type 0} → (List ℕ → Result (T × List ℕ) (List ℕ)) → List ℕ → Result (Option T × List ℕ) (List ℕ)
maybe read = do
  is_there ← flag
  maybe_after read is_there

abbrev pub items : {T : Type 0} → (List ℕ → Result (T × List ℕ) (List ℕ)) → ℕ → List ℕ → Result (List T × List ℕ) (List ℕ)
items read zero = given []
items read (suc n) = do
  x ← read
  xs ← items read n
  given (x ∷ xs)

abbrev pub list : {T : Type 0} → (List ℕ → Result (T × List ℕ) (List ℕ)) → List ℕ → Result (List T × List ℕ) (List ℕ)
list read = do
  n ← count
  items read n
