-- A store that a node stands on, by what its two files mean, whoever's node it is.
use Rattle.std.specs.Prelude.{◌≡◌, ℕ, List, Bool, IsTrue, Option, None, Result, Ok}
use Rattle.sig_journal.specs.declared.fault.LoadFault.{LoadFault}
use Rattle.sig_links.specs.Told.{stored}
use Rattle.sig_opening.specs.Closing.{PutsBack}
use Rattle.sig_opening.specs.Ends.{BreaksBy}
use Rattle.sig_opening.specs.Files.{IfBoth, IsToldBy, StandsForState}

-- what a node tells of its store: the first and the second file, the state, the rules by which it answers, and the turn at which
-- the store broke, if it did
pub record Held (D S R : Type 0) : Type 0 where
  pub first : D
  pub second : D
  pub state : S
  pub rules : R
  pub broken_at : Option ℕ

-- a disk tells what another one told
abbrev pub TellsAs : {D : Type 0} → (D → Bool) → (D → List ℕ) → D → D → Type 0
TellsAs told seen old new = (told new ≡ told old) × (seen new ≡ seen old)

-- the node that was loaded from two disks, by these rules: its state is what they stand for, where both are told, and is sound
pub record Loads {D S R : Type 0} (told : D → Bool) (seen : D → List ℕ) (means : List ℕ → List ℕ → Result S LoadFault) (is_sound : S → Type 0) (rules : R) (a b : D) (held : Held D S R) : Type 0 where
  pub rules_same : held.rules ≡ rules
  pub whole : held.broken_at ≡ None
  pub state : IsTrue (told a) → IsTrue (told b) → means (seen a) (seen b) ≡ Ok held.state
  pub sound : is_sound held.state
  pub first : TellsAs told seen a held.first
  pub second : TellsAs told seen b held.second

-- the node of a store of these two files, as they were told
pub record Opens {D S R : Type 0} (told : D → Bool) (seen : D → List ℕ) (means : List ℕ → List ℕ → Result S LoadFault) (is_sound : S → Type 0) (rules : R) (a b : Option (List ℕ)) (held : Held D S R) : Type 0 where
  pub rules_same : held.rules ≡ rules
  pub whole : held.broken_at ≡ None
  pub state : StandsForState means a b held.state
  pub sound : is_sound held.state
  pub file_a : IsToldBy told seen a held.first
  pub file_b : IsToldBy told seen b held.second

-- the two files of a node, where both are told, stand for its state; where it is broken, for that or for that with one more change
abbrev pub FilesTell : {D S C R : Type 0} → (D → Bool) → (D → List ℕ) → (List ℕ → List ℕ → Result S LoadFault) → (S → C → S) → Held D S R → Type 0
FilesTell told seen means after held = (fails : Bool) → BreaksBy fails held.broken_at
    → IfBoth (stored (told held.first) (seen held.first)) (stored (told held.second) (seen held.second)) (PutsBack means after fails held.state)
