-- A stream's list of subjects, as it is kept: the subjects in any order, and in the order of listing where each of them stands.
use Rattle.std.specs.Prelude.{◌≡◌, ◌↔◌, ℕ, List, Option, None, Some}
use Rattle.std.specs.List.{filter_map, slice_get}
use Rattle.sig_subject.specs.declared.subject.Subject.{Subject}

-- the subjects in the order of listing, and for how many further ones there is room
pub record Listing : Type 0 where
  pub listed : List Subject
  pub room : ℕ

-- the subject of a place, which may be empty
abbrev pub subject_at : {X : Type 0} → List X → Option ℕ → Option X
subject_at subjects None = None
subject_at subjects (Some i) = slice_get subjects i

-- the subjects of places in order, of which some are empty
abbrev pub listed_in : {X : Type 0} → List X → List (Option ℕ) → List X
listed_in subjects order = filter_map (subject_at subjects) order

-- the i-th subject has a place exactly where that place has the i-th subject
abbrev pub AreLinked : List ℕ → List (Option ℕ) → Type 0
AreLinked places order = (i p : ℕ) → (slice_get places i ≡ Some p) ↔ (slice_get order p ≡ Some (Some i))
