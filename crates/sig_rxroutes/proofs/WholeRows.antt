-- No fraction stands in what is told of rows.
use Rattle.std.proofs.Common.{◌≡◌, ◌||◌, ℕ, List, [], ◌∷◌, Bool, false, Option, Some, None, refl}
use Rattle.serde_json.specs.Written.{has_float}
use Rattle.sig_json.proofs.Fractions.{without_whole}
use Rattle.sig_subject.specs.Written.{subject_data}
use Rattle.sig_sessions.specs.declared.row.Row.{Row}
use Rattle.sig_rxroutes.specs.Documents.{row_data, rows_data}

neither : (a b : Bool) → a ≡ false → b ≡ false → a || b ≡ false
neither a b h k = rw (h, k) refl

row_whole : (r : Row) → has_float (row_data r) ≡ false
row_whole r = at r.level
  where
    at : (level : Option (List ℕ)) → has_float (row_data (record r { level = level })) ≡ false
    at None = rw (without_whole (subject_data r.subject)) refl
    at (Some text) = rw (without_whole (subject_data r.subject)) refl

pub rows_whole : (rows : List Row) → has_float (rows_data rows) ≡ false
rows_whole [] = refl
rows_whole (r ∷ rows) = neither (has_float (row_data r)) (has_float (rows_data rows)) (row_whole r) (rows_whole rows)
