-- What was, as contracts see it.
use Rattle.std.specs.Prelude.{ℕ, List, map}
use Rattle.std.specs.declared.snapshot.Snapshot.{Snapshot}

-- all of it, in order, and how much there is room for
pub record PastOf (T : Type 0) : Type 0 where
  pub items : List T
  pub room : ℕ

-- what these remember
abbrev pub values_of : {T : Type 0} → List (Snapshot T) → List T
values_of snapshots = map (λ s. s.value) snapshots
