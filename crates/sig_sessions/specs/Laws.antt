-- What claims leave of the rows, whatever they say.
use Rattle.std.specs.Prelude.{◌≡◌, ◌&&◌, ℕ, List, [], ◌∷◌, ◌++◌, map, not, true, false, Some, All, IfSome, IsUtf8, if◌then◌else◌}
use Rattle.std.specs.List.{list_any, slice_get}
use Rattle.sig_subject.specs.declared.subject.Subject.{Subject}
use Rattle.sig_subject.specs.Matching.{is_covering}
use Rattle.sig_subject.specs.Written.{IsProperSubject}
use Rattle.sig_event.specs.declared.claims.Claims.{Claims}
use Rattle.sig_event.specs.declared.event.Event.{Event}
use Rattle.sig_event.specs.Events.{IsProperEvent}
use Rattle.sig_sessions.specs.declared.row.Row.{Row}
use Rattle.sig_sessions.specs.Effects.{has_effect}
use Rattle.sig_sessions.specs.Table.{are_distinct, effect, has_row}

-- whom rows are about, in order
abbrev pub subjects_of : List Row → List Subject
subjects_of rows = map (λ (r : Row). r.subject) rows

-- the subject that claims add to the rows: their own, where one of their events has an effect and no row is of it
abbrev pub subjects_added : Claims → List Row → List Subject
subjects_added claims rows = if list_any has_effect claims.events && not (has_row claims.subject rows) then claims.subject ∷ [] else []

-- each row stands at its place with its subject, and at most one is added, last
abbrev pub KeepsPlaces : Type 0
KeepsPlaces = (claims : Claims) (rows : List Row) → subjects_of (effect claims rows) ≡ subjects_of rows ++ subjects_added claims rows

-- a row that the claims' subject doesn't cover stays as it was
abbrev pub LeavesUncovered : Type 0
LeavesUncovered =
    (claims : Claims) (rows : List Row) (place : ℕ) (r : Row) → slice_get rows place ≡ Some r → is_covering claims.subject r.subject ≡ false
    → slice_get (effect claims rows) place ≡ Some r

-- where each subject has one row, each has one afterwards
abbrev pub KeepsDistinct : Type 0
KeepsDistinct = (claims : Claims) (rows : List Row) → are_distinct rows ≡ true → are_distinct (effect claims rows) ≡ true

-- a row that can be written as JSON and read again: its subject is proper, and its level a text
pub record IsProperRow (r : Row) : Type 0 where
  pub subject : IsProperSubject r.subject
  pub level : IfSome r.level IsUtf8

-- what proper claims make of proper rows are proper rows
abbrev pub KeepsProper : Type 0
KeepsProper =
    (claims : Claims) (rows : List Row) → IsProperSubject claims.subject → All (λ (e : Event). IsProperEvent e claims.subject) claims.events
    → All IsProperRow rows → All IsProperRow (effect claims rows)
