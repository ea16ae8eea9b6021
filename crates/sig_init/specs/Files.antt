-- The two files of a store by their names, as the outside tells the bytes of each name.
use Rattle.std.specs.Prelude.{◌≡◌, ℕ, List, ◌++◌, Option, IsSome, codes}
use Rattle.sig_journal.specs.declared.kind.Kind.{Kind}
use Rattle.sig_init.specs.Ends.{Left, Made, Tells}

-- the names of the two files of a store
abbrev pub file_a : List ℕ → List ℕ
file_a store = store ++ codes ".a"

abbrev pub file_b : List ℕ → List ℕ
file_b store = store ++ codes ".b"

-- the bytes of each store, where they are told
abbrev pub Held : Type 0
Held = List ℕ → Option (List ℕ)

-- where both files were told: they were empty, and are those of an empty store now
abbrev pub MakesStore : Kind → List ℕ → Held → Held → List ℕ → List ℕ → Type 0
MakesStore kind store_id before now a b = Made kind store_id (before a) (before b) (now a) (now b)

-- and so they tell an empty store of this kind and id
abbrev pub TellsEmpty : Kind → List ℕ → Held → Held → List ℕ → List ℕ → Type 0
TellsEmpty kind store_id before now a b = Tells kind store_id (before a) (before b) (now a) (now b)

-- where both files were told: the first that isn't empty has this size, and both are as they were
abbrev pub LeavesAsItWas : ℕ → Held → Held → List ℕ → List ℕ → Type 0
LeavesAsItWas size before now a b = Left size (before a) (before b) (now a) (now b)

-- a store that was told is told again
abbrev pub StaysTold : Held → Held → List ℕ → Type 0
StaysTold before now name = IsSome (before name) → IsSome (now name)

-- no other store is touched
abbrev pub KeepsBut : List ℕ → List ℕ → Held → Held → Type 0
KeepsBut a b before now = (other : List ℕ) → (other ≡ a → ⊥) → (other ≡ b → ⊥) → now other ≡ before other
