-- What the outside tells again after a run.
use Rattle.std.specs.Prelude.{◌≡◌, ℕ, List, Option, Some, IfSome}

-- the bytes of each name, where they are told
abbrev pub Held : Type 0
Held = List ℕ → Option (List ℕ)

-- where it was told, it is told to be the same
abbrev pub TellsSame : Option (List ℕ) → Option (List ℕ) → Type 0
TellsSame before now = IfSome before (λ bytes. now ≡ Some bytes)

-- two files are told to be the same
abbrev pub StaySame : List ℕ → List ℕ → Held → Held → Type 0
StaySame a b before now = TellsSame (before a) (now a) × TellsSame (before b) (now b)

-- settings of other names are told as before
abbrev pub KeepsOtherSettings : List ℕ → Held → Held → Type 0
KeepsOtherSettings name before now = (other : List ℕ) → (other ≡ name → ⊥) → TellsSame (before other) (now other)
