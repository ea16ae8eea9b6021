-- Lists by name, as a JSON object has its members: in byte order of names, each name once.
use Rattle.std.specs.Prelude.{◌≡◌, ℕ, List, [], ◌∷◌, Option, find, bytes_eq, ⊤}
use Rattle.std.specs.Ordering.{nat_cmp, match_ordering}
use Rattle.std.specs.declared.cmp.Ordering.TheVariants.{Less}
use Rattle.std.specs.Cmp.Lexicographic.{slice_cmp}

-- at its place in byte order of names, instead of one of its name
abbrev pub placed : {T : Type 0} → (T → List ℕ) → T → List T → List T
placed name x [] = x ∷ []
placed name x (y ∷ ys) = match_ordering (slice_cmp nat_cmp (name x) (name y)) (x ∷ y ∷ ys) (x ∷ ys) (y ∷ placed name x ys)

-- in byte order of names, the first of each name
abbrev pub by_name : {T : Type 0} → (T → List ℕ) → List T → List T
by_name name [] = []
by_name name (x ∷ xs) = placed name x (by_name name xs)

-- this name is below each of theirs
abbrev pub IsBelowAll : {T : Type 0} → (T → List ℕ) → List ℕ → List T → Type 0
IsBelowAll name k [] = ⊤
IsBelowAll name k (y ∷ ys) = (slice_cmp nat_cmp k (name y) ≡ Less) × IsBelowAll name k ys

-- in byte order of names, each name once
abbrev pub IsByName : {T : Type 0} → (T → List ℕ) → List T → Type 0
IsByName name [] = ⊤
IsByName name (x ∷ xs) = IsBelowAll name (name x) xs × IsByName name xs

-- the first of this name
abbrev pub first_named : {T : Type 0} → (T → List ℕ) → List ℕ → List T → Option T
first_named name k xs = find (λ x. bytes_eq k (name x)) xs
