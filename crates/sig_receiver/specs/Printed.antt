-- What is printed of answers and of the session table.
use Rattle.std.specs.Prelude.{ℕ, List, [], ◌∷◌, ◌++◌, ◌+◌, Bool, true, false, Option, Some, None, codes, decimal, length}
use Rattle.serde_json.specs.Data.{string}
use Rattle.serde_json.specs.Written.{compact_text}
use Rattle.sig_subject.specs.declared.subject.Subject.{Subject}
use Rattle.sig_subject.specs.Written.{subject_data}
use Rattle.sig_set.specs.Spelled.{code_text, spot_text}
use Rattle.sig_json.specs.Canon.{without_fraction}
use Rattle.sig_sessions.specs.declared.row.Row.{Row}
use Rattle.sig_sessions.specs.Spelled.{account_text, device_text, opt_text, session_text}
use Rattle.sig_receiver.specs.declared.heard.Heard.{Heard}
use Rattle.sig_receiver.specs.declared.heard.Heard.TheVariants.{Accepted, Seen, NotTaken}

-- the line of an answer
abbrev pub answer_text : ℕ → Heard → List ℕ
answer_text n Accepted = decimal n ++ codes " accepted\n"
answer_text n Seen = decimal n ++ codes " seen\n"
answer_text n (NotTaken code spot) = decimal n ++ codes " refused " ++ code_text code ++ codes " " ++ spot_text spot ++ codes "\n"

-- a subject's JSON text (RFC 9493, section 3); every subject that was read has one
abbrev pub printed_subject : Subject → List ℕ
printed_subject s = compact_text (without_fraction (subject_data s))

abbrev pub yes_or_no : Bool → List ℕ
yes_or_no true = codes "yes"
yes_or_no false = codes "no"

-- a level as a JSON string, and a hyphen where there is none
abbrev pub level_text : Option (List ℕ) → List ℕ
level_text None = codes "-"
level_text (Some level) = compact_text (string level)

-- what is known of a row
abbrev pub known_text : Row → List ℕ
known_text r =
    codes " session=" ++ session_text r.session
    ++ codes " account=" ++ account_text r.account
    ++ codes " device=" ++ device_text r.device
    ++ codes " reset=" ++ yes_or_no r.reset
    ++ codes " stale=" ++ yes_or_no r.stale
    ++ codes " opt=" ++ opt_text r.opt
    ++ codes " level=" ++ level_text r.level ++ codes "\n"

-- the line of the row at a place
abbrev pub row_text : ℕ → Row → List ℕ
row_text place r = codes "row " ++ decimal place ++ codes " " ++ printed_subject r.subject ++ known_text r

-- the lines of rows from a place on
abbrev pub rows_text : ℕ → List Row → List ℕ
rows_text place [] = []
rows_text place (r ∷ rows) = row_text place r ++ rows_text (place + 1) rows

-- the last line: how many rows there are, and how many distinct tokens were journalled
abbrev pub counts_text : ℕ → ℕ → List ℕ
counts_text rows tokens = codes "rows " ++ decimal rows ++ codes " tokens " ++ decimal tokens ++ codes "\n"

-- the table, and then the counts
abbrev pub table_text : List Row → ℕ → List ℕ
table_text rows tokens = rows_text 1 rows ++ counts_text (length rows) tokens
