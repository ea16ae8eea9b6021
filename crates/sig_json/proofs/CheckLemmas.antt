-- The first check that fails, in lists that are joined or mapped.
use Rattle.std.proofs.Common.{◌≡◌, List, [], ◌∷◌, ◌++◌, map, true, false, Some, option_map, if◌then◌else◌, refl}
use Rattle.sig_json.specs.Checks.{Check, first_failing, or_else, map_fault}

-- of joined lists the first one decides where it can
pub first_failing-append : {F : Type 0} (cs ds : List (Check F)) → first_failing (cs ++ ds) ≡ or_else (first_failing cs) (first_failing ds)
first_failing-append [] ds = refl
first_failing-append (c ∷ cs) ds =
    elim c.holds as (λ b. (if b then first_failing (cs ++ ds) else Some c.fault) ≡ or_else (if b then first_failing cs else Some c.fault) (first_failing ds)) [
      | true ↦ first_failing-append cs ds
      | false ↦ refl
    ]

-- faults within others fail at the same place
pub first_failing-map : {F G : Type 0} (f : F → G) (cs : List (Check F)) → first_failing (map (map_fault f) cs) ≡ option_map f (first_failing cs)
first_failing-map f [] = refl
first_failing-map f (c ∷ cs) =
    elim c.holds as (λ b. (if b then first_failing (map (map_fault f) cs) else Some (f c.fault)) ≡ option_map f (if b then first_failing cs else Some c.fault)) [
      | true ↦ first_failing-map f cs
      | false ↦ refl
    ]
