-- Rows that are changed by their places.
use Rattle.std.proofs.Common.{◌≡◌, ◌<◌, ap, List, [], ◌∷◌, length, get_or, ℕ, zero, suc, arith}
use Rattle.std.proofs.Math.ListN.{set}
use Rattle.sig_sessions.specs.declared.row.Row.{Row}
use Rattle.sig_sessions.specs.declared.update.Update.{Update}
use Rattle.sig_sessions.specs.Changes.{updated, updated_at}

-- a write at a place
pub updated_set : (u : Update) (i : ℕ) (d new : Row) (rows : List Row) → i < length rows → new ≡ updated u (get_or rows i d)
    → set rows i new ≡ updated_at i u rows
updated_set u i d new [] within change = absurd (omega arith)
updated_set u zero d new (x ∷ rows) within change = ap (λ y. y ∷ rows) change
updated_set u (suc i) d new (x ∷ rows) within change = ap (λ l. x ∷ l) (updated_set u i d new rows (omega arith) change)
