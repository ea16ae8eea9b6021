-- Lists of checks, of which the first that fails decides.
use Rattle.std.specs.Prelude.{Bool, List, [], ◌∷◌, if◌then◌else◌, Option, Some, None, Result, Ok, Err}

-- a test, and the fault that it stands for where it doesn't hold
pub record Check (F : Type 0) : Type 0 where
  pub fault : F
  pub holds : Bool

abbrev pub check : {F : Type 0} → F → Bool → Check F
check fault holds = record { fault = fault; holds = holds }

-- the fault of the first check that fails
abbrev pub first_failing : {F : Type 0} → List (Check F) → Option F
first_failing [] = None
first_failing (c ∷ cs) = if c.holds then first_failing cs else Some c.fault

-- the fault, or this value where there is none
abbrev pub decided : {T F : Type 0} → Option F → T → Result T F
decided None x = Ok x
decided (Some f) x = Err f

-- the check with its fault within another one
abbrev pub map_fault : {F G : Type 0} → (F → G) → Check F → Check G
map_fault f c = record { fault = f c.fault; holds = c.holds }

-- the first answer, else the second
abbrev pub or_else : {F : Type 0} → Option F → Option F → Option F
or_else None second = second
or_else (Some f) second = Some f
