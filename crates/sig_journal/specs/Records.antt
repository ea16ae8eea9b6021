-- What stands at a gate of a file.
use Rattle.std.specs.Prelude.{◌≡◌, ℕ, ◌+◌, List, [], length, Ok, Err}
use Rattle.sig_journal.specs.declared.records.Next.{Next}
use Rattle.sig_journal.specs.declared.records.Next.TheVariants.{End, Damaged, Record}
use Rattle.sig_journal.specs.Layout.{before_records, records_of}

-- a record and the bytes after it, nothing more, or damage
pub data Found : Type 0 where
  Nothing : Found
  Bad : Found
  One : List ℕ → List ℕ → Found

abbrev pub next_view : Next → Found
next_view End = Nothing
next_view Damaged = Bad
next_view (Record payload after) = One payload.now after.now

-- what the records from this place on are
abbrev pub NextIs : ℕ → List ℕ → Found → Type 0
NextIs place bytes Nothing = records_of (length bytes) place bytes ≡ Ok []
NextIs place bytes Bad = records_of (length bytes) place bytes ≡ Err place
NextIs place bytes (One payload after) =
    (records_of (length bytes) place bytes ≡ before_records payload (records_of (length after) (place + 5 + length payload) after))
    × (5 + length payload + length after ≡ length bytes)
