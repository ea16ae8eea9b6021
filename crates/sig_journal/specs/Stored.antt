-- The store of a node as it is held: its journal, and when a call of a disk failed.
use Rattle.std.specs.Prelude.{◌≡◌, ℕ, List, Bool, Option, None, is_some}
use Rattle.sig_journal.specs.Journal.{IsAtRest, Open}

-- the journal, and the number of the turn at which it broke, or none while it isn't broken
pub record Stored (D : Type 0) : Type 0 where
  pub journal : Open D
  pub broken_at : Option ℕ

-- a turn is kept exactly where the journal is broken, and otherwise the journal is at rest
pub record IsStored {D : Type 0} (told : D → Bool) (seen : D → List ℕ) (may_leave : D → List ℕ → Type 0) (stored : Stored D) : Type 0 where
  pub marked : is_some stored.broken_at ≡ stored.journal.broken
  pub rests : stored.broken_at ≡ None → IsAtRest told seen may_leave stored.journal

-- the journal's numbers, and whether and when it broke, are the same
pub record SameJournal {D : Type 0} (old new : Stored D) : Type 0 where
  pub in_b : new.journal.in_b ≡ old.journal.in_b
  pub kind : new.journal.kind ≡ old.journal.kind
  pub records : new.journal.records ≡ old.journal.records
  pub end : new.journal.end ≡ old.journal.end
  pub broken : new.journal.broken ≡ old.journal.broken
  pub broken_at : new.broken_at ≡ old.broken_at
