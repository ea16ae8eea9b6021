-- Which streams a fact tells something, asked once of each.
use Rattle.std.specs.Prelude.{◌≡◌, List, Bool, map}
use Rattle.sig_terms.specs.declared.fact.Fact.{Fact}
use Rattle.sig_history.specs.Streams.{Stream}
use Rattle.sig_history.specs.Facts.{is_told}

-- a fact, with a mark for each stream, in order
pub record Addressed : Type 0 where
  pub fact : Fact
  pub told : List Bool

-- the marks say exactly which of these streams the fact tells
abbrev pub IsAddressed : List Stream → Addressed → Type 0
IsAddressed streams a = a.told ≡ map (is_told a.fact) streams
