-- The two files of a store as the outside tells them, and what they stand for, whoever's store it is.
use Rattle.std.specs.Prelude.{◌≡◌, ◌⊎◌, ℕ, List, Bool, true, false, IsTrue, Option, Result, Ok, Err, IfSome}
use Rattle.sig_outside.specs.Causes.{Rose}
use Rattle.sig_journal.specs.declared.fault.LoadFault.{LoadFault}
use Rattle.sig_journal.specs.declared.fault.LoadFault.TheVariants.{Store, Damaged, Memory}
use Rattle.sig_opening.specs.declared.unopened.Unopened.{Unopened}
use Rattle.sig_opening.specs.declared.unopened.Unopened.TheVariants as unopened

-- this holds of both, where both are told
abbrev pub IfBoth : Option (List ℕ) → Option (List ℕ) → (List ℕ → List ℕ → Type 0) → Type 0
IfBoth a b holds = IfSome a (λ x. IfSome b (λ y. holds x y))

-- where a file was told, its disk tells it
abbrev pub IsToldBy : {D : Type 0} → (D → Bool) → (D → List ℕ) → Option (List ℕ) → D → Type 0
IsToldBy told seen file disk = IfSome file (λ bytes. IsTrue (told disk) × (seen disk ≡ bytes))

-- where both files are told, the store stands for this state
abbrev pub StandsForState : {S : Type 0} → (List ℕ → List ℕ → Result S LoadFault) → Option (List ℕ) → Option (List ℕ) → S → Type 0
StandsForState means a b state = IfBoth a b (λ x y. means x y ≡ Ok state)

-- where both are told, the store is damaged there
abbrev pub IsDamaged : {S : Type 0} → (List ℕ → List ℕ → Result S LoadFault) → Option (List ℕ) → Option (List ℕ) → ℕ → ℕ → Type 0
IsDamaged means a b file at = IfBoth a b (λ x y. means x y ≡ Err (Damaged file at))

-- why no node was loaded, by the count of the stores' faults
abbrev pub HaltsStore : {S : Type 0} → (List ℕ → List ℕ → Result S LoadFault) → LoadFault → Option (List ℕ) → Option (List ℕ) → ℕ → ℕ → Type 0
HaltsStore means Store a b before now = Rose before now
HaltsStore means (Damaged file at) a b before now = IsDamaged means a b file at
HaltsStore means Memory a b before now = Unit {0}

-- ---- whether they are there

-- a file is there, or isn't, where that is told
abbrev pub IsThere : Option Bool → Type 0
IsThere there = IfSome there (λ is. is ≡ true)

abbrev pub IsMissing : Option Bool → Type 0
IsMissing there = IfSome there (λ is. is ≡ false)

-- both files of a store are there, or one of them isn't
abbrev pub AreThere : Option Bool → Option Bool → Type 0
AreThere a b = IsThere a × IsThere b

abbrev pub LackOne : Option Bool → Option Bool → Type 0
LackOne a b = IsMissing a ⊎ IsMissing b

-- the cause where both were opened, for this fault
abbrev pub of_load : LoadFault → Unopened
of_load Store = unopened.Failed
of_load (Damaged file at) = unopened.Damaged file at
of_load Memory = unopened.Memory

-- why a file wasn't opened, or one of two, by whether they lack one and the count of the stores' faults
abbrev pub HaltsFiles : Unopened → Type 0 → ℕ → ℕ → Type 0
HaltsFiles unopened.Missing lacks before now = lacks
HaltsFiles unopened.Failed lacks before now = Rose before now
HaltsFiles (unopened.Damaged file at) lacks before now = ⊥
HaltsFiles unopened.Memory lacks before now = ⊥

-- why no node was loaded, by whether they lack one and that count
abbrev pub HaltsOpening : {S : Type 0} → (List ℕ → List ℕ → Result S LoadFault) → Unopened → Type 0 → Option (List ℕ) → Option (List ℕ) → ℕ → ℕ → Type 0
HaltsOpening means unopened.Missing lacks a b before now = lacks
HaltsOpening means unopened.Failed lacks a b before now = Rose before now
HaltsOpening means (unopened.Damaged file at) lacks a b before now = IsDamaged means a b file at
HaltsOpening means unopened.Memory lacks a b before now = Unit {0}
