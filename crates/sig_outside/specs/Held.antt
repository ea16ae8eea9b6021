-- What was taken of a source and not given yet, of any source.
use Rattle.std.specs.Prelude.{◌≡◌, ℕ, ◌+◌, ◌≤◌, List, ◌++◌, length, Option}
use Rattle.std.specs.Io.KnownBytes.{Consumes, IsAtEnd}
use Rattle.sig_json.specs.declared.limits.TheConstants.{LAST_NUMBER}
use Rattle.sig_outside.specs.Causes.{Raised}
use Rattle.sig_outside.specs.declared.line.LineFault.{LineFault}
use Rattle.sig_outside.specs.declared.line.LineFault.TheVariants.{Failed, Endless, Memory}

-- the bytes that were taken of the source and not given yet, and how many were taken in all
pub record Holding : Type 0 where
  pub kept : List ℕ
  pub taken : ℕ

-- what a call took of any source: these bytes, which stand next in what is left where that is told
pub record Draws (old new : Holding) (left left' : Option (List ℕ)) : Type 0 where
  pub more : List ℕ
  pub gave : Consumes left left' more
  pub taken : new.taken ≡ old.taken + length more

-- what a call took of any source stands after what was kept
pub record Grows (old new : Holding) (left left' : Option (List ℕ)) : Type 0 where
  pub draws : Draws old new left left'
  pub kept : new.kept ≡ old.kept ++ draws.more

-- one piece of so many bytes was taken: none only at the end of the input
pub record HasPiece (n : ℕ) (old new : Holding) (left left' : Option (List ℕ)) : Type 0 where
  pub grows : Grows old new left left'
  pub count : length grows.draws.more ≡ n
  pub ends : n ≡ 0 → IsAtEnd left'

-- the same of bytes alone, with how many were asked for
pub record IsPiece (n ask : ℕ) (old new : List ℕ) (left left' : Option (List ℕ)) : Type 0 where
  pub more : List ℕ
  pub gave : Consumes left left' more
  pub kept : new ≡ old ++ more
  pub count : length more ≡ n
  pub bound : n ≤ ask
  pub ends : n ≡ 0 → IsAtEnd left'

-- why no piece was taken, by the count of the source's faults: it failed, and its count is raised by one; or no further
-- byte is counted, or memory ended, and its count stays
abbrev pub Halts : LineFault → ℕ → ℕ → ℕ → Type 0
Halts Failed taken before now = Raised before now
Halts (Endless n) taken before now = (n ≡ LAST_NUMBER) × (taken ≡ LAST_NUMBER) × (now ≡ before)
Halts Memory taken before now = now ≡ before
