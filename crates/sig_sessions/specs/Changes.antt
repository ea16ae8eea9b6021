-- A change of the table that was made ready, and the table as it is held.
use Rattle.std.specs.Prelude.{◌≡◌, ◌<◌, ◌≤◌, ℕ, zero, suc, List, [], ◌∷◌, ◌++◌, Option, Some, None, IfSome, false, if◌then◌else◌, length, nat_lt, ⊤}
use Rattle.std.specs.Option.{option_to_list}
use Rattle.sig_json.specs.Checks.{or_else}
use Rattle.sig_places.specs.declared.entry.Entry.{Entry}
use Rattle.sig_sessions.specs.declared.row.Row.{Row}
use Rattle.sig_sessions.specs.declared.update.Update.{Update}
use Rattle.sig_sessions.specs.Keys.{entries_at, keys_of}
use Rattle.sig_sessions.specs.Table.{has_row, with_state}

-- the rows, and how many keys one further row may have
pub record Held : Type 0 where
  pub rows : List Row
  pub room : ℕ

-- rows that change, by their places, and a row to be added
pub record Changed : Type 0 where
  pub updates : List Update
  pub added : Option Row

-- a row with its new state, and with a new level where there is one
abbrev pub updated : Update → Row → Row
updated u r = with_state u.state (or_else u.level r.level) r

-- the row at a place changes
abbrev pub updated_at : ℕ → Update → List Row → List Row
updated_at place u [] = []
updated_at zero u (r ∷ rows) = updated u r ∷ rows
updated_at (suc place) u (r ∷ rows) = r ∷ updated_at place u rows

-- rows change one after another
abbrev pub updated_by : List Update → List Row → List Row
updated_by [] rows = rows
updated_by (u ∷ us) rows = updated_by us (updated_at u.place u rows)

-- the rows after the change
abbrev pub applied : Changed → List Row → List Row
applied change rows = updated_by change.updates rows ++ option_to_list change.added

-- each place is one of so many
abbrev pub ArePlaced : ℕ → List Update → Type 0
ArePlaced places [] = ⊤
ArePlaced places (u ∷ us) = (u.place < places) × ArePlaced places us

-- how many keys one further row may have: none where there is no room for the row
abbrev pub room_for : ℕ → ℕ → ℕ
room_for rows keys = if nat_lt 0 rows then keys else 0

-- there is room for the row to be added, under each of its keys
abbrev pub HasRoom : ℕ → Option Row → Type 0
HasRoom room None = ⊤
HasRoom room (Some row) = length (keys_of row.subject) ≤ room

-- the entries of the row to be added, at this place
abbrev pub entries_added : ℕ → Option Row → List Entry
entries_added place None = []
entries_added place (Some row) = entries_at place (keys_of row.subject)

-- the row to be added is of a subject that has none
abbrev pub IsNew : List Row → Option Row → Type 0
IsNew rows added = IfSome added (λ (row : Row). has_row row.subject rows ≡ false)

-- the change can be made without memory: its places are there, and there is room; and it adds no second row of a subject
pub record IsReady (held : Held) (change : Changed) : Type 0 where
  pub placed : ArePlaced (length held.rows) change.updates
  pub room : HasRoom held.room change.added
  pub new : IsNew held.rows change.added
