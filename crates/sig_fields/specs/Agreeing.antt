-- A spelling and a reader that agree.
use Rattle.std.specs.Prelude.{◌≡◌, ◌<◌, ◌≤◌, ◌^◌, ℕ, List, ◌++◌, length, All, Option, Some, None, Result, Ok, IsUtf8, ⊤}
use Rattle.std.specs.List.{slice_index}
use Rattle.sig_fields.specs.Kinds as kinds

-- each is below 256
abbrev pub AreBytes : List ℕ → Type 0
AreBytes bytes = (i : ℕ) → slice_index bytes i < 256

-- what is spelled of a proper value is read as that value, whatever stands after it; and what is read of bytes is proper, and they begin with
-- its spelling
pub record Agrees {T : Type 0} (IsProper : T → Type 0) (spelled : T → List ℕ) (read : List ℕ → Result (T × List ℕ) (List ℕ)) : Type 0 where
  pub reads : (x : T) (rest : List ℕ) → IsProper x → read (spelled x ++ rest) ≡ Ok (x, rest)
  pub spells : (bytes : List ℕ) (x : T) (rest : List ℕ) → AreBytes bytes → read bytes ≡ Ok (x, rest) → IsProper x × (bytes ≡ spelled x ++ rest)

-- ---- the values that fields can have

-- fewer than 2^32 bytes of UTF-8
pub record IsProperText (text : List ℕ) : Type 0 where
  pub utf8 : IsUtf8 text
  pub short : length text < 2 ^ 32

abbrev pub IsProperMaybe : {T : Type 0} → (T → Type 0) → Option T → Type 0
IsProperMaybe IsProper None = ⊤
IsProperMaybe IsProper (Some x) = IsProper x

-- fewer than 2^32 items
pub record IsProperList {T : Type 0} (IsProper : T → Type 0) (xs : List T) : Type 0 where
  pub each : All IsProper xs
  pub short : length xs < 2 ^ 32

-- ---- the laws

abbrev pub NumbersAgree : Type 0
NumbersAgree = (most : ℕ) → most < 2 ^ 64 → Agrees (λ n. n ≤ most) kinds.number_bytes (kinds.number_up_to most)

abbrev pub TextsAgree : Type 0
TextsAgree = Agrees IsProperText kinds.text_bytes kinds.text

abbrev pub FlagsAgree : Type 0
FlagsAgree = Agrees (λ b. ⊤) kinds.flag_bytes kinds.flag
