-- What an input and an output show at a moment, and what they counted between two.
use Rattle.std.specs.Prelude.{◌≡◌, ◌⊎◌, ℕ, List, Option}
use Rattle.sig_outside.specs.Causes.{Raised}

-- of an input: what is left of it, where it tells that, and how many of its calls failed
pub record InputState : Type 0 where
  pub left : Option (List ℕ)
  pub faults : ℕ

-- of an output: what it took, where it tells that, how many of its calls failed, and how many took nothing of a piece
-- that isn't empty
pub record OutputState : Type 0 where
  pub written : Option (List ℕ)
  pub faults : ℕ
  pub stalls : ℕ

-- of both at one moment
pub record Moment : Type 0 where
  pub input : InputState
  pub output : OutputState

abbrev pub output_state : Option (List ℕ) → ℕ → ℕ → OutputState
output_state written faults stalls = record { written = written; faults = faults; stalls = stalls }

abbrev pub moment : Option (List ℕ) → ℕ → Option (List ℕ) → ℕ → ℕ → Moment
moment left input_faults written output_faults stalls = record {
  input = record { left = left; faults = input_faults };
  output = record { written = written; faults = output_faults; stalls = stalls };
}

-- no call of the output failed, and none took nothing of a piece
abbrev pub OutputCalm : OutputState → OutputState → Type 0
OutputCalm before after = (after.faults ≡ before.faults) × (after.stalls ≡ before.stalls)

-- the output stopped at one call: it failed, or took nothing of a piece that isn't empty
abbrev pub OutputStopped : OutputState → OutputState → Type 0
OutputStopped before after =
    (Raised before.faults after.faults × (after.stalls ≡ before.stalls))
    ⊎ (Raised before.stalls after.stalls × (after.faults ≡ before.faults))

-- no call of the input failed
abbrev pub InputCalm : InputState → InputState → Type 0
InputCalm before after = after.faults ≡ before.faults

-- one call of the input failed
abbrev pub InputFailed : InputState → InputState → Type 0
InputFailed before after = Raised before.faults after.faults

-- neither failed or stopped
abbrev pub Calm : Moment → Moment → Type 0
Calm before after = InputCalm before.input after.input × OutputCalm before.output after.output
