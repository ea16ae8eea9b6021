-- The session table of a journal: the fold of the effects of its texts (defined here).
use Rattle.std.specs.Prelude.{ℕ, List, fold}
use Rattle.sig_set.specs.Judgement.{claims_of}
use Rattle.sig_sessions.specs.declared.row.Row.{Row}
use Rattle.sig_sessions.specs.Table.{effect}

-- what the claims of texts make of the rows, text by text
abbrev pub fold_rows : List Row → List (List ℕ) → List Row
fold_rows rows texts = fold (λ rs text. effect (claims_of text) rs) rows texts
