-- The records of both stores.
use Rattle.std.specs.Prelude.{ℕ, List, map}
use Rattle.sig_terms.specs.declared.fact.Fact.{Fact}
use Rattle.sig_entry.specs.Facts.{spelling_of}
use Rattle.sig_entry.specs.Tokens.{token_spelling}

-- of facts
abbrev pub fact_records : List Fact → List (List ℕ)
fact_records facts = map spelling_of facts

-- of token texts
abbrev pub token_records : List (List ℕ) → List (List ℕ)
token_records texts = map token_spelling texts
