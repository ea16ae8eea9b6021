-- What a reader of lines keeps.
use Rattle.std.specs.Prelude.{◌≡◌, ℕ, List}
use Rattle.sig_outside.specs.declared.mode.Mode.{Mode}
use Rattle.sig_outside.specs.declared.mode.Mode.TheVariants as modes

-- the bytes that were taken of the source and not given yet, the number of the last line, how many bytes were taken in all, and the mode
pub record Reading : Type 0 where
  pub kept : List ℕ
  pub number : ℕ
  pub taken : ℕ
  pub mode : Mode

-- it reads on
abbrev pub IsOpen : Reading → Type 0
IsOpen r = r.mode ≡ modes.Open

-- its source failed
abbrev pub IsFailing : Reading → Type 0
IsFailing r = r.mode ≡ modes.Failing

-- it was refused memory
abbrev pub IsSpent : Reading → Type 0
IsSpent r = r.mode ≡ modes.Spent
