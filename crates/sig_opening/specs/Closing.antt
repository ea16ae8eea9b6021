-- A store that is put back.
use Rattle.std.specs.Prelude.{◌≡◌, ◌⊎◌, ℕ, List, Bool, true, false, Result, Ok}
use Rattle.sig_journal.specs.declared.fault.LoadFault.{LoadFault}

-- it stands for this state; where a disk failed, for this or for that with one more change
abbrev pub PutsBack : {S C : Type 0} → (List ℕ → List ℕ → Result S LoadFault) → (S → C → S) → Bool → S → List ℕ → List ℕ → Type 0
PutsBack means after false state a b = means a b ≡ Ok state
PutsBack {C = C} means after true state a b = (means a b ≡ Ok state) ⊎ ((change : C) × (means a b ≡ Ok (after state change)))
