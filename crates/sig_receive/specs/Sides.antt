-- The side of a fetch: it is taken before the first round, and given back after the last.
use Rattle.std.specs.Prelude.{◌≡◌, ◌⊎◌, ℕ, List, [], ◌∷◌, Option, Some, None}
use Rattle.sig_links.specs.Told.{Begins, HandsNext, SideEnd, SidePlan, side_end, with_last}
use Rattle.sig_links.specs.Views.{SideView}
use Rattle.sig_opening.specs.Stays.{TellsSame}

-- the sides that will be handed out, and those that were given back, where they are told
pub record Sides : Type 0 where
  pub ahead : Option (List SidePlan)
  pub back : Option (List SideEnd)

abbrev pub sides_of : Option (List SidePlan) → Option (List SideEnd) → Sides
sides_of ahead back = record { ahead = ahead; back = back }

-- it came back last; one after the last that is told may not be kept
abbrev pub ComesBack : Option (List SidePlan) → Option (List SideEnd) → Option (List SideEnd) → Option SideEnd → Type 0
ComesBack None old new last = new ≡ with_last old last
ComesBack (Some []) old new last = (new ≡ old) ⊎ (new ≡ with_last old last)
ComesBack (Some (next ∷ later)) old new last = new ≡ with_last old last

-- the next of the sides was taken, and was given back as it was last
pub record HasSide (old new : Sides) (first last : SideView) : Type 0 where
  pub next : HandsNext old.ahead new.ahead first.ahead first.times
  pub begins : Begins old.back first.sent
  pub whole : first.faults ≡ 0
  pub gives_back : ComesBack old.ahead old.back new.back (side_end last.ahead last.times last.sent)

-- what the outside tells of a store's two files, and of the sides
pub record Beside : Type 0 where
  pub a : Option (List ℕ)
  pub b : Option (List ℕ)
  pub sides : Sides

abbrev pub beside : {X : Type 0} → (X → List ℕ → Option (List ℕ)) → (X → Option (List SidePlan)) → (X → Option (List SideEnd)) → List ℕ → List ℕ → X → Beside
beside held ahead back a b outside = record { a = held outside a; b = held outside b; sides = sides_of (ahead outside) (back outside) }

-- no round began: both files are as they were, no side was handed out, and none came back
pub record NoFetch (old new : Beside) : Type 0 where
  pub files : TellsSame old.a new.a × TellsSame old.b new.b
  pub sides : new.sides ≡ old.sides
