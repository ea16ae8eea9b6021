-- What a stream owes, in order of number.
use Rattle.std.specs.Prelude.{ℕ, ◌<◌, ◌≤◌, List, [], ◌∷◌, Bool, not, filter, nat_le, All, ⊤}
use Rattle.sig_accounts.specs.declared.debt.Debt.{Debt}

-- debts in order, and for how many further ones there is room
pub record Queue : Type 0 where
  pub debts : List Debt
  pub room : ℕ

-- their numbers rise from above one
abbrev pub Rises : ℕ → List Debt → Type 0
Rises below [] = ⊤
Rises below (d ∷ ds) = (below < d.number) × Rises d.number ds

-- they rise from above 0, and none is above the number of those that were made
pub record AreNumbered (made : ℕ) (debts : List Debt) : Type 0 where
  pub rising : Rises 0 debts
  pub within : All (λ (d : Debt). d.number ≤ made) debts

-- not one of the numbers that are settled; from a number on, and up to one
abbrev pub is_left : (ℕ → Bool) → Debt → Bool
is_left is_settled d = not (is_settled d.number)

abbrev pub is_from : ℕ → Debt → Bool
is_from least d = nat_le least d.number

abbrev pub is_to : ℕ → Debt → Bool
is_to most d = nat_le d.number most

-- those of numbers from one to another
abbrev pub numbered : ℕ → ℕ → List Debt → List Debt
numbered least most ds = filter (is_from least) (filter (is_to most) ds)
