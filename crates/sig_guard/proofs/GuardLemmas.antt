-- What a pair met tells of the rows.
use Rattle.std.proofs.Common.{◌≡◌, ap, refl, Bool, true, false, List, Ok, if◌then◌else◌}
use Rattle.sig_event.specs.declared.claims.Claims.{Claims}
use Rattle.sig_inbox.specs.Pairs.{has_pair}
use Rattle.sig_inbox.specs.declared.pair.Pair.{Pair}
use Rattle.sig_inbox.specs.declared.seen.Found.TheVariants.{Added, There}
use Rattle.sig_sessions.specs.declared.row.Row.{Row}
use Rattle.sig_sessions.specs.Table.{effect}
use Rattle.sig_guard.specs.Guard.{found_in, pair_of, rows_after}

was_there : (b : Bool) → There ≡ (if b then There else Added) → b ≡ true
was_there true h = refl
was_there false h = cc

was_new : (b : Bool) → Added ≡ (if b then There else Added) → b ≡ false
was_new true h = cc
was_new false h = refl

-- a repeat leaves the rows
pub rows_after-there : (pairs : List Pair) (rows : List Row) (claims : Claims) → There ≡ found_in pairs claims → rows_after pairs rows (Ok claims) ≡ rows
rows_after-there pairs rows claims h = ap (λ (b : Bool). if b then rows else effect claims rows) (was_there (has_pair (pair_of claims) pairs) h)

-- a new token changes them as its claims say
pub rows_after-new : (pairs : List Pair) (rows : List Row) (claims : Claims) → Added ≡ found_in pairs claims → rows_after pairs rows (Ok claims) ≡ effect claims rows
rows_after-new pairs rows claims h = ap (λ (b : Bool). if b then rows else effect claims rows) (was_new (has_pair (pair_of claims) pairs) h)
