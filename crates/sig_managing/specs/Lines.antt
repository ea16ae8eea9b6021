-- The line of each change, and how many there were of each kind.
use Rattle.std.specs.Prelude.{ℕ, List, [], ◌++◌, ◌||◌, ◌==◌, Bool, true, false, Option, Some, None, nat_lt, min, ◌-◌, ◌^◌, unwrap_or, map, filter_map, flat_map, count_by, codes, if◌then◌else◌}
use Rattle.sig_event.specs.Status.{status_text}
use Rattle.sig_terms.specs.declared.want.Want.{Want}
use Rattle.sig_manager.specs.declared.step.Step.{Step}
use Rattle.sig_manager.specs.declared.step.Step.TheVariants as step
use Rattle.sig_managing.specs.declared.counts.Change.{Change}
use Rattle.sig_managing.specs.declared.counts.Change.TheVariants.{Created, Replaced, Deleted, StatusSet}
use Rattle.sig_managing.specs.declared.counts.Counts.{Counts}

-- ---- lines

-- a byte that ends no line and moves no cursor: those below 32, and 127, are shown as `?`
abbrev pub shown_byte : ℕ → ℕ
shown_byte b = if nat_lt b 32 || b == 127 then 63 else b

-- a text on one line
abbrev pub on_line : List ℕ → List ℕ
on_line text = map shown_byte text

-- a stream's description, the empty text where there is none
abbrev pub description_in : Want → List ℕ
description_in want = unwrap_or want.description []

-- the line of a step that was answered; asking for a status changes nothing
abbrev pub line_of : Step → List ℕ
line_of (step.Status stream wanted) = []
line_of (step.Delete stream) = codes "delete " ++ on_line stream ++ codes "\n"
line_of (step.Replace stream want) = codes "replace " ++ on_line stream ++ codes "\n"
line_of (step.Create want status) = codes "create " ++ on_line (description_in want) ++ codes "\n"
line_of (step.SetStatus stream status) = codes "status " ++ on_line stream ++ codes " " ++ status_text status ++ codes "\n"

abbrev pub lines_of : List Step → List ℕ
lines_of steps = flat_map line_of steps

-- ---- counts

-- what a step changes; asking for a status changes nothing
abbrev pub change_of : Step → Option Change
change_of (step.Status stream wanted) = None
change_of (step.Delete stream) = Some Deleted
change_of (step.Replace stream want) = Some Replaced
change_of (step.Create want status) = Some Created
change_of (step.SetStatus stream status) = Some StatusSet

abbrev pub is_created : Change → Bool
is_created Created = true
is_created Replaced = false
is_created Deleted = false
is_created StatusSet = false

abbrev pub is_replaced : Change → Bool
is_replaced Created = false
is_replaced Replaced = true
is_replaced Deleted = false
is_replaced StatusSet = false

abbrev pub is_deleted : Change → Bool
is_deleted Created = false
is_deleted Replaced = false
is_deleted Deleted = true
is_deleted StatusSet = false

abbrev pub is_set : Change → Bool
is_set Created = false
is_set Replaced = false
is_set Deleted = false
is_set StatusSet = true

-- a count stands at its type's end
abbrev pub most : ℕ → ℕ
most n = min n (2 ^ 64 - 1)

-- how many changes there were of each kind
abbrev pub counts_of : List Change → Counts
counts_of changes = record {
  created = most (count_by is_created changes);
  replaced = most (count_by is_replaced changes);
  deleted = most (count_by is_deleted changes);
  status = most (count_by is_set changes);
}

-- of the steps that were answered
abbrev pub counted : List Step → Counts
counted steps = counts_of (filter_map change_of steps)
