-- What is seen of a link that is served, at one moment, and what was written to it from one moment to another.
use Rattle.std.specs.Prelude.{◌≡◌, ◌⊎◌, ℕ, List, Option}
use Rattle.std.specs.Io.KnownBytes.{Appends}
use Rattle.sig_outside.specs.Causes.{AppendsPrefix, Raised}

-- of the link: the bytes that it has left and those written to it, where it tells them, and how many reads and writes failed
pub record Line : Type 0 where
  pub left : Option (List ℕ)
  pub written : Option (List ℕ)
  pub reads : ℕ
  pub writes : ℕ

-- the line of a link of any kind
abbrev pub seen : {L : Type 0} → (L → Option (List ℕ)) → (L → Option (List ℕ)) → (L → ℕ) → (L → ℕ) → L → Line
seen left written reads writes link = record { left = left link; written = written link; reads = reads link; writes = writes link }

-- ---- writing

-- a text was written whole
pub record Says (text : List ℕ) (old new : Line) : Type 0 where
  pub whole : Appends old.written new.written text
  pub writes : new.writes ≡ old.writes

-- a prefix of a text was written, since a write failed
pub record Breaks (text : List ℕ) (old new : Line) : Type 0 where
  pub prefix : AppendsPrefix old.written new.written text
  pub cause : Raised old.writes new.writes

abbrev pub Sends : List ℕ → Line → Line → Type 0
Sends text old new = Says text old new ⊎ Breaks text old new
