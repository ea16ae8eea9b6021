-- Joined texts.
use Rattle.std.proofs.Common.{◌≡◌, ◌++◌, ℕ, List, [], ◌∷◌, map, refl, ap, sym}
use Rattle.std.specs.List.{join_by}
use Rattle.std.proofs.lemmas.List.Folds.{flat_map-map}

-- the pieces' texts may be taken first
pub join_texts : {X : Type 0} (f : X → List ℕ) (between : List ℕ) (xs : List X) → join_by f between xs ≡ join_by (λ m. m) between (map f xs)
join_texts f between [] = refl
join_texts f between (x ∷ xs) = ap (λ rest. f x ++ rest) (sym (flat_map-map (λ y. between ++ y) f xs))
