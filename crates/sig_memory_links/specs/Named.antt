-- Things by their names, in order: the first that has a name, and the others.
use Rattle.std.specs.Prelude.{◌≡◌, ℕ, List, [], ◌∷◌, Bool, bytes_eq, Option, Some, None, is_some, if◌then◌else◌}

-- the first with this name
abbrev pub first_named : {T : Type 0} → (T → List ℕ) → List ℕ → List T → Option T
first_named name_of name [] = None
first_named name_of name (x ∷ more) = if bytes_eq (name_of x) name then Some x else first_named name_of name more

-- all but the first with this name
abbrev pub but_named : {T : Type 0} → (T → List ℕ) → List ℕ → List T → List T
but_named name_of name [] = []
but_named name_of name (x ∷ more) = if bytes_eq (name_of x) name then more else x ∷ but_named name_of name more

-- whether a name is among these
abbrev pub is_listed : List ℕ → List (List ℕ) → Bool
is_listed name names = is_some (first_named (λ (text : List ℕ). text) name names)
