-- What a source and a sink in memory hold.
use Rattle.std.specs.Prelude.{ℕ, List}

-- of a source in memory: what is left, at most how many bytes a call gives, and the numbers of the calls that are to fail, with how many were made and failed
pub record Given : Type 0 where
  pub left : List ℕ
  pub piece : ℕ
  pub failing : List ℕ
  pub calls : ℕ
  pub faults : ℕ

-- of a sink in memory: what was written, at most how many bytes a call takes, and the numbers of the calls that take
-- nothing and that are to fail, with how many were made, stalled and failed, and how many of these were refused memory
pub record Taken : Type 0 where
  pub written : List ℕ
  pub piece : ℕ
  pub idle : List ℕ
  pub failing : List ℕ
  pub calls : ℕ
  pub stalls : ℕ
  pub faults : ℕ
  pub refused : ℕ
