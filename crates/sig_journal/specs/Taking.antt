-- The state that a store stands for: its records are taken up in order, one by one.
use Rattle.std.specs.Prelude.{ℕ, ◌+◌, List, [], ◌∷◌, length, Option, Result, Ok, Err}
use Rattle.std.specs.Option.{option_map_or}
use Rattle.sig_journal.specs.declared.fault.LoadFault.{LoadFault}
use Rattle.sig_journal.specs.Store.{Told, file_number, in_file_at}

-- how records are taken up: the state of a store of this name that has none, and the state after one more, or none where that record is refused
pub record Taking (S : Type 0) : Type 0 where
  pub start : List ℕ → S
  pub step : S → List ℕ → Option S

-- the state after these records, the first of whose gates stands at this place, or the place of the gate of the first that is refused
abbrev pub state_after : {S : Type 0} → (S → List ℕ → Option S) → S → ℕ → List (List ℕ) → Result S ℕ
state_after step state place [] = Ok state
state_after step state place (payload ∷ records) =
    option_map_or (λ next. state_after step next (place + 5 + length payload) records) (step state payload) (Err place)

-- the state that a store stands for, or the file and the offset at which it is damaged: its bytes are no journal there, or the record whose gate stands there is refused
abbrev pub loaded : {S : Type 0} → Taking S → Result Told LoadFault → Result S LoadFault
loaded taking (Ok told) =
    in_file_at (file_number told.in_b) (state_after taking.step (taking.start told.content.store_id) (35 + length told.content.snapshot) told.content.records)
loaded taking (Err fault) = Err fault
