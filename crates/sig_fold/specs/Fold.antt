-- What `fold` prints: a verdict for each line of the input, and then the session table.
use Rattle.std.specs.Prelude.{ℕ, List, [], ◌∷◌, ◌++◌, ◌+◌, Some, None, length}
use Rattle.sig_set.specs.declared.trust.Issuer.{Issuer}
use Rattle.sig_set.specs.declared.trust.Trust.{Trust}
use Rattle.sig_receiver.specs.Journal.{answer_to, journal_by, distinct}
use Rattle.sig_receiver.specs.Printed.{answer_text, table_text}
use Rattle.sig_receiver.specs.Rows.{fold_rows}
use Rattle.sig_command.specs.Telling.{Telling}

-- one issuer, for this audience
abbrev pub trust_of : Issuer → List ℕ → Trust
trust_of issuer aud = record { audience = aud; issuers = issuer ∷ [] }

-- what is printed for a line, over the journal so far; an empty line is passed over
abbrev pub line_text : Trust → List ℕ → ℕ → List (List ℕ) → List ℕ → List ℕ
line_text trust issuer number journal [] = []
line_text trust issuer number journal (b ∷ line) = answer_text number (answer_to trust [] (Some issuer) None journal (b ∷ line))

-- the journal after a line
abbrev pub journal_after : Trust → List ℕ → List (List ℕ) → List ℕ → List (List ℕ)
journal_after trust issuer journal [] = journal
journal_after trust issuer journal (b ∷ line) = journal_by (answer_to trust [] (Some issuer) None journal (b ∷ line)) journal (b ∷ line)

-- what is printed for lines, numbered from here on; empty ones are counted too
abbrev pub lines_text : Trust → List ℕ → ℕ → List (List ℕ) → List (List ℕ) → List ℕ
lines_text trust issuer number journal [] = []
lines_text trust issuer number journal (line ∷ more) =
    line_text trust issuer number journal line ++ lines_text trust issuer (number + 1) (journal_after trust issuer journal line) more

-- the journal after lines
abbrev pub journal_of : Trust → List ℕ → List (List ℕ) → List (List ℕ) → List (List ℕ)
journal_of trust issuer journal [] = journal
journal_of trust issuer journal (line ∷ more) = journal_of trust issuer (journal_after trust issuer journal line) more

-- the table of a journal's distinct texts, and how many there are
abbrev pub journal_text : List (List ℕ) → List ℕ
journal_text journal = table_text (fold_rows [] (distinct [] journal)) (length (distinct [] journal))

-- the verdicts of the lines, and at the end the table; no line stops it
abbrev pub fold_telling : Trust → List ℕ → Telling
fold_telling trust issuer = record {
  text = λ given. lines_text trust issuer 1 [] given;
  stop = λ given. None;
  last = λ given. journal_text (journal_of trust issuer [] given);
}
