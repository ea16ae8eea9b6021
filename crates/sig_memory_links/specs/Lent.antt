-- What is handed out and comes back, and which calls are to fail.
use Rattle.std.specs.Prelude.{ℕ, zero, suc, ◌+◌, ◌-◌, ◌^◌, min, List, [], ◌∷◌, ◌++◌, Bool, Option, Some, None, nat_eq}
use Rattle.std.specs.List.{list_any}

-- what came back, in order, and how many are out
pub record Lent (T : Type 0) : Type 0 where
  pub back : List T
  pub out : ℕ

-- with one more out
abbrev pub lent_one : {T : Type 0} → Lent T → Lent T
lent_one lent = record { back = lent.back; out = lent.out + 1 }

-- with this back; with none out it isn't kept
abbrev pub taken_back : {T : Type 0} → T → List T → ℕ → Lent T
taken_back value back zero = record { back = back; out = 0 }
taken_back value back (suc out) = record { back = back ++ (value ∷ []); out = out }

-- the numbers of the calls that are to fail, and how many calls were made
pub record Planned : Type 0 where
  pub numbers : List ℕ
  pub calls : ℕ

-- whether the next call is to fail
abbrev pub fails_next : Planned → Bool
fails_next plan = list_any (nat_eq plan.calls) plan.numbers

-- after one more call; the number of calls stands at its type's end
abbrev pub called : Planned → Planned
called plan = record { numbers = plan.numbers; calls = min (plan.calls + 1) (2 ^ 64 - 1) }

-- the first of these and the others
abbrev pub first_of : {T : Type 0} → List T → Option T
first_of [] = None
first_of (value ∷ more) = Some value

abbrev pub others_of : {T : Type 0} → List T → List T
others_of [] = []
others_of (value ∷ more) = more
