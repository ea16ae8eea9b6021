-- The names that are left to hand tokens of.
use Rattle.std.specs.Prelude.{ℕ, List, [], ◌∷◌, Bool, ◌||◌, bytes_eq, if◌then◌else◌}

-- each name where it comes first, but for those that were seen
abbrev pub new_names : (List ℕ → Bool) → List (List ℕ) → List (List ℕ)
new_names seen [] = []
new_names seen (n ∷ ns) = if seen n then new_names seen ns else n ∷ new_names (λ m. bytes_eq m n || seen m) ns
