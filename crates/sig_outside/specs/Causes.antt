-- What a source and a sink count and leave alone, and what a call of a sink took.
use Rattle.std.specs.Prelude.{◌≡◌, ℕ, ◌+◌, ◌-◌, ◌^◌, ◌≤◌, min, zero, suc, List, [], ◌∷◌, ◌++◌, Option, Result, OnErr, OnOk}
use Rattle.std.specs.Io.KnownBytes.{Appends}

-- a count that is raised by one; it stands at its type's end
abbrev pub raised : ℕ → ℕ
raised before = min (before + 1) (2 ^ 64 - 1)

-- a count was raised by one
abbrev pub Raised : ℕ → ℕ → Type 0
Raised before now = (before ≤ now) × (now ≡ raised before)

-- a count rose, or stands at its type's end
abbrev pub Rose : ℕ → ℕ → Type 0
Rose before now = raised before ≤ now

-- the count of the calls that failed, once a call answered so: it stays where the call didn't fail, and is raised by one
-- where it did
pub record HasCause {T E : Type 0} (before now : ℕ) (result : Result T E) : Type 0 where
  pub stays : OnOk result (now ≡ before)
  pub failed : OnErr result (Raised before now)

-- of a link: the other direction's bytes, where they are told, its count of faults, and the host and port that were dialled
pub record Aside : Type 0 where
  pub bytes : Option (List ℕ)
  pub faults : ℕ
  pub place : Option (List ℕ × ℕ)

-- what stands beside one direction: of a link the other one, of any other object nothing
abbrev pub Beside : Type 0
Beside = Option Aside

-- the count of the calls that took nothing of a piece that isn't empty, where this call took so many bytes of this piece:
-- it is raised by one for 0 of such a piece, and stays otherwise
abbrev pub Stalls : ℕ → ℕ → ℕ → List ℕ → Type 0
Stalls before now zero [] = now ≡ before
Stalls before now zero (b ∷ bytes) = Raised before now
Stalls before now (suc n) bytes = now ≡ before

-- known bytes grow by a prefix of these
abbrev pub AppendsPrefix : Option (List ℕ) → Option (List ℕ) → List ℕ → Type 0
AppendsPrefix old new bytes = (front : List ℕ) × (rest : List ℕ) × (bytes ≡ front ++ rest) × Appends old new front
