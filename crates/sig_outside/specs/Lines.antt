-- Lines of bytes: each ends with LF, one CR before that LF goes, and the last line may lack its LF and then keeps a CR.
use Rattle.std.specs.Prelude.{◌≡◌, ℕ, ◌+◌, ◌<◌, ◌≤◌, ◌==◌, ◌⊎◌, Bool, false, List, [], ◌∷◌, ◌++◌, length, Option, Some}
use Rattle.std.specs.List.{All, list_any}
use Rattle.std.specs.Str.Lines.{strip_carriage_return}
use Rattle.sig_outside.specs.Reading.{Reading}
use Rattle.sig_outside.specs.declared.line.Line.{Line}
use Rattle.sig_outside.specs.declared.line.Line.TheVariants.{Text, Long, End}

-- no byte of these is LF
abbrev pub HasNoLf : List ℕ → Type 0
HasNoLf bytes = All (λ b. (b == 10) ≡ false) bytes

-- whether one of these bytes is LF
abbrev pub has_lf : List ℕ → Bool
has_lf bytes = list_any (λ b. b == 10) bytes

-- the bytes begin with this line and its end, and rest follows
abbrev pub Cuts : List ℕ → List ℕ → List ℕ → Type 0
Cuts bytes line rest =
    ((front : List ℕ) × (bytes ≡ front ++ 10 ∷ rest) × HasNoLf front × (line ≡ strip_carriage_return front))
    ⊎ ((bytes ≡ line) × (rest ≡ []) × HasNoLf line × (0 < length line))

-- of the bytes from here on this is the first line, and those are the others
abbrev pub IsFirst : ℕ → ℕ → Line → List ℕ → List ℕ → Type 0
IsFirst room before (Text number bytes) old new = (number ≡ before + 1) × (length bytes ≤ room) × Cuts old bytes new
IsFirst room before (Long number) old new = (number ≡ before + 1) × ((line : List ℕ) × (room < length line) × Cuts old line new)
IsFirst room before End old new = (old ≡ []) × (new ≡ [])

-- the number of the last line, after this one
abbrev pub number_after : ℕ → Line → ℕ
number_after before (Text number bytes) = before + 1
number_after before (Long number) = before + 1
number_after before End = before

-- what a call took of a source that tells what is left
pub record Took (old new : Reading) (left : List ℕ) (left' : Option (List ℕ)) : Type 0 where
  pub more : List ℕ
  pub after : List ℕ
  pub told : left' ≡ Some after
  pub parts : left ≡ more ++ after
  pub taken : new.taken ≡ old.taken + length more

-- the reader gave this line
pub record Gives (room : ℕ) (line : Line) (old new : Reading) (left : List ℕ) (left' : Option (List ℕ)) : Type 0 where
  pub took : Took old new left left'
  pub first : IsFirst room old.number line (old.kept ++ left) (new.kept ++ took.after)

-- the reader stopped within a line
pub record Stops (old new : Reading) (left : List ℕ) (left' : Option (List ℕ)) : Type 0 where
  pub took : Took old new left left'
  pub within : HasNoLf (old.kept ++ took.more)
