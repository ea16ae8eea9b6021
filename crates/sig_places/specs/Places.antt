-- Places under keys.
use Rattle.std.specs.Prelude.{ℕ, List, [], ◌∷◌, ◌++◌, nat_eq, nat_lt, if◌then◌else◌}
use Rattle.sig_places.specs.declared.entry.Entry.{Entry}

-- the entries in the order in which they were put, and for how many more there is room
pub record Held : Type 0 where
  pub entries : List Entry
  pub room : ℕ

-- the smaller of two numbers
abbrev pub least : ℕ → ℕ → ℕ
least a b = if nat_lt a b then a else b

-- the place of an entry, where it is under the key
abbrev pub place_under : ℕ → Entry → List ℕ
place_under key e = if nat_eq e.key key then e.place ∷ [] else []

-- the places under a key, newest first
abbrev pub places_of : ℕ → List Entry → List ℕ
places_of key [] = []
places_of key (e ∷ es) = places_of key es ++ place_under key e
