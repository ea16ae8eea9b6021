-- The rows as they are found.
use Rattle.std.specs.Prelude.{◌≡◌, List, true}
use Rattle.sig_places.specs.declared.entry.Entry.{Entry}
use Rattle.sig_sessions.specs.declared.row.Row.{Row}
use Rattle.sig_sessions.specs.Keys.{entries_from}
use Rattle.sig_sessions.specs.Laws.{subjects_of}
use Rattle.sig_sessions.specs.Table.{are_distinct}

-- no two rows are of identical subjects, and each stands under its keys
pub record IsIndexed (rows : List Row) (entries : List Entry) : Type 0 where
  pub distinct : are_distinct rows ≡ true
  pub placed : entries ≡ entries_from 0 (subjects_of rows)
