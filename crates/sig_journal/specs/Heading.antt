-- The bytes of a file with a snapshot.
use Rattle.std.specs.Prelude.{ℕ, List, [], ◌∷◌, ◌++◌, length}
use Rattle.std.specs.Int.{to_be_bytes, w32, w64}
use Rattle.sig_journal.specs.declared.kind.Kind.{Kind}
use Rattle.sig_journal.specs.declared.layout.TheConstants.{MAGIC, VERSION}
use Rattle.sig_journal.specs.Layout.{kind_byte}

-- a file after its header gate: a header of this kind, generation and name, a snapshot, and the closed gate of the first record
abbrev pub file_bytes : Kind → ℕ → List ℕ → List ℕ → List ℕ
file_bytes kind generation store_id snapshot =
    MAGIC ++ VERSION ∷ kind_byte kind ∷ [] ++ to_be_bytes w64 generation ++ store_id ++ to_be_bytes w32 (length snapshot) ++ snapshot ++ 0 ∷ []
