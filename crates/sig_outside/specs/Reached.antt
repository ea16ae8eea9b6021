-- Where the first line of what is kept ends, and what line it is, of any source.
use Rattle.std.specs.Prelude.{◌≡◌, ◌⊎◌, ℕ, ◌+◌, ◌<◌, ◌≤◌, List, [], ◌∷◌, ◌++◌, length, take, drop, Option}
use Rattle.std.specs.Io.KnownBytes.{IsAtEnd}
use Rattle.std.specs.Str.Lines.{strip_carriage_return}
use Rattle.sig_outside.specs.Held.{Holding, Draws}
use Rattle.sig_outside.specs.Lines.{HasNoLf}
use Rattle.sig_outside.specs.declared.line.Line.{Line}
use Rattle.sig_outside.specs.declared.line.Line.TheVariants.{Text, Long, End}
use Rattle.sig_outside.specs.declared.line.LineFault.{LineFault}
use Rattle.sig_outside.specs.declared.line.LineFault.TheVariants.{Failed, Endless, Memory}
use Rattle.sig_outside.specs.declared.reach.Reach.{Reach}
use Rattle.sig_outside.specs.declared.reach.Reach.TheVariants.{Newline, Last, Over}

-- the first LF stands at this place, or there is none
abbrev pub Reaches : Reach → ℕ → List ℕ → Option (List ℕ) → Type 0
Reaches (Newline at) room kept left' = (at < length kept) × HasNoLf (take at kept) × (kept ≡ take at kept ++ 10 ∷ drop (at + 1) kept)
Reaches Last room kept left' = HasNoLf kept × IsAtEnd left'
Reaches Over room kept left' = HasNoLf kept × (room + 1 < length kept)

-- it is a LF that is kept
abbrev pub IsNewline : Reach → Type 0
IsNewline (Newline at) = Unit {0}
IsNewline Last = ⊥
IsNewline Over = ⊥

-- these bytes are this line
abbrev pub IsLineOf : ℕ → ℕ → List ℕ → Line → Type 0
IsLineOf room before bytes (Text number text) = (number ≡ before + 1) × (text ≡ bytes) × (length bytes ≤ room)
IsLineOf room before bytes (Long number) = (number ≡ before + 1) × (room < length bytes)
IsLineOf room before bytes End = ⊥

-- the same of the last bytes of the input, where there are some
abbrev pub IsLastOf : ℕ → ℕ → List ℕ → Line → Type 0
IsLastOf room before bytes (Text number text) = (0 < length bytes) × (number ≡ before + 1) × (text ≡ bytes) × (length bytes ≤ room)
IsLastOf room before bytes (Long number) = (0 < length bytes) × (number ≡ before + 1) × (room < length bytes)
IsLastOf room before bytes End = bytes ≡ []

-- what was taken of any source has no end of a line, together with what was kept
pub record Within (old new : Holding) (left left' : Option (List ℕ)) : Type 0 where
  pub draws : Draws old new left left'
  pub within : HasNoLf (old.kept ++ draws.more)

-- the same of each fault but out of memory
abbrev pub HaltsWithin : LineFault → Holding → Holding → Option (List ℕ) → Option (List ℕ) → Type 0
HaltsWithin Failed old new left left' = Within old new left left'
HaltsWithin (Endless n) old new left left' = Within old new left left'
HaltsWithin Memory old new left left' = Unit {0}

-- the bytes begin with this line and its end, and rest follows: after an LF, or at the end of the input
abbrev pub IsCut : List ℕ → List ℕ → List ℕ → Option (List ℕ) → Type 0
IsCut bytes line rest left' =
    ((front : List ℕ) × (bytes ≡ front ++ 10 ∷ rest) × HasNoLf front × (line ≡ strip_carriage_return front))
    ⊎ ((bytes ≡ line) × (rest ≡ []) × HasNoLf line × (0 < length line) × IsAtEnd left')

-- of any source: of the bytes from here on this is the first line
abbrev pub IsNext : ℕ → ℕ → Line → List ℕ → List ℕ → Option (List ℕ) → Type 0
IsNext room before (Text number bytes) old new left' = (number ≡ before + 1) × (length bytes ≤ room) × IsCut old bytes new left'
IsNext room before (Long number) old new left' = (number ≡ before + 1) × ((line : List ℕ) × (room < length line) × IsCut old line new left')
IsNext room before End old new left' = (old ≡ []) × (new ≡ []) × IsAtEnd left'

-- a call gave this line, of any source
pub record Yields (room before : ℕ) (line : Line) (old new : Holding) (left left' : Option (List ℕ)) : Type 0 where
  pub draws : Draws old new left left'
  pub first : IsNext room before line (old.kept ++ draws.more) new.kept left'

-- what a call took of any source is the rest of a line with its end, and what is kept follows
pub record Skips (old new : Holding) (left left' : Option (List ℕ)) : Type 0 where
  pub draws : Draws old new left left'
  pub cut : ((front : List ℕ) × (draws.more ≡ front ++ 10 ∷ new.kept) × HasNoLf front) ⊎ ((new.kept ≡ []) × HasNoLf draws.more × IsAtEnd left')
