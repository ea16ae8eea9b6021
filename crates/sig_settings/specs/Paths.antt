-- Where a fault stands in settings: the steps from a value to the one that is wrong.
use Rattle.std.specs.Prelude.{ℕ, List, [], ◌∷◌, ◌++◌, codes, decimal}
use Rattle.sig_settings.specs.declared.path.Step.{Step}
use Rattle.sig_settings.specs.declared.path.Step.TheVariants.{Member, Place}

-- the steps from a value to one inside it, the outermost first; no step is the value itself
abbrev pub Path : Type 0
Path = List Step

-- a step that follows others: `.` and a member's name, or in brackets an item's place from 0
abbrev pub step_text : Step → List ℕ
step_text (Member name) = codes "." ++ name
step_text (Place n) = codes "[" ++ decimal n ++ codes "]"

abbrev pub steps_text : Path → List ℕ
steps_text [] = []
steps_text (s ∷ rest) = step_text s ++ steps_text rest

-- the first step of a path: no `.` stands before a name
abbrev pub first_text : Step → List ℕ
first_text (Member name) = name
first_text (Place n) = step_text (Place n)

-- the text of a path, as `issuers[1].keys[0].k`
abbrev pub path_text : Path → List ℕ
path_text [] = []
path_text (s ∷ rest) = first_text s ++ steps_text rest
