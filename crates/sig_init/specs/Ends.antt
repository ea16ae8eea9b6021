-- How the making of an empty store ends, over what its two files told before and tell now.
use Rattle.std.specs.Prelude.{◌≡◌, ℕ, List, [], ◌∷◌, false, Option, Some, None, Result, Ok, Err}
use Rattle.sig_journal.specs.declared.kind.Kind.{Kind}
use Rattle.sig_journal.specs.declared.layout.TheConstants.{GATE_OPEN}
use Rattle.sig_journal.specs.declared.making.MakeFault.{MakeFault}
use Rattle.sig_journal.specs.declared.making.MakeFault.TheVariants as make_fault
use Rattle.sig_journal.specs.Layout.{Content, first_size, new_bytes}
use Rattle.sig_journal.specs.Store.{Told, tells}
use Rattle.sig_init.specs.declared.ending.InitEnd.{InitEnd}
use Rattle.sig_init.specs.declared.ending.InitEnd.TheVariants as ending

-- how it ends where both files were opened
abbrev pub end_of : Result (Unit {0}) MakeFault → InitEnd
end_of (Ok done) = ending.Done
end_of (Err (make_fault.Taken size)) = ending.NotEmpty size
end_of (Err make_fault.Store) = ending.Store

-- the first file of an empty store, which is in force, and the second
abbrev pub first_file : Kind → List ℕ → List ℕ
first_file kind store_id = GATE_OPEN ∷ new_bytes kind store_id

abbrev pub second_file : List ℕ
second_file = 0 ∷ []

-- what an empty store tells: its id, no snapshot and no record
abbrev pub empty_store : List ℕ → Told
empty_store store_id = record { in_b = false; content = record { store_id = store_id; snapshot = []; records = [] } }

-- where both were told: they were empty, and are those of an empty store now
abbrev pub Made : Kind → List ℕ → Option (List ℕ) → Option (List ℕ) → Option (List ℕ) → Option (List ℕ) → Type 0
Made kind store_id None b new_a new_b = Unit {0}
Made kind store_id (Some a) None new_a new_b = Unit {0}
Made kind store_id (Some a) (Some b) new_a new_b = (a ≡ []) × (b ≡ []) × (new_a ≡ Some (first_file kind store_id)) × (new_b ≡ Some second_file)

-- and so they tell an empty store
abbrev pub BothTell : Kind → List ℕ → Option (List ℕ) → Option (List ℕ) → Type 0
BothTell kind store_id None b = ⊥
BothTell kind store_id (Some a) None = ⊥
BothTell kind store_id (Some a) (Some b) = tells kind a b ≡ Ok (empty_store store_id)

abbrev pub Tells : Kind → List ℕ → Option (List ℕ) → Option (List ℕ) → Option (List ℕ) → Option (List ℕ) → Type 0
Tells kind store_id None b new_a new_b = Unit {0}
Tells kind store_id (Some a) None new_a new_b = Unit {0}
Tells kind store_id (Some a) (Some b) new_a new_b = BothTell kind store_id new_a new_b

-- where both were told: the first that isn't empty has this size, and both are as they were
abbrev pub Left : ℕ → Option (List ℕ) → Option (List ℕ) → Option (List ℕ) → Option (List ℕ) → Type 0
Left size None b new_a new_b = Unit {0}
Left size (Some a) None new_a new_b = Unit {0}
Left size (Some a) (Some b) new_a new_b = (first_size a b ≡ Some size) × (new_a ≡ Some a) × (new_b ≡ Some b)
