-- What ticks print: a line for each attempt, at once after its tick.
use Rattle.std.specs.Prelude.{ℕ, ◌+◌, List, [], ◌∷◌, ◌++◌, Bool, Result, Ok, Err, ⊤, codes, decimal, flat_map, if◌then◌else◌}
use Rattle.sig_courier.specs.declared.attempt.Attempt.{Attempt}
use Rattle.sig_journal.specs.declared.node_fault.NodeFault.{NodeFault}
use Rattle.sig_ticking.specs.Ticks.{Tick}

-- whether an attempt was good
abbrev pub outcome_word : Bool → List ℕ
outcome_word good = if good then codes "good" else codes "late"

abbrev pub line_by : ℕ → List ℕ → ℕ → List ℕ → List ℕ
line_by number stream tokens outcome = decimal number ++ codes " " ++ stream ++ codes " " ++ decimal tokens ++ codes " " ++ outcome ++ codes "\n"

-- the line of an attempt of the tick of a number
abbrev pub attempt_line : ℕ → Attempt → List ℕ
attempt_line number attempt = line_by number attempt.stream attempt.tokens (outcome_word attempt.good)

abbrev pub attempts_text : ℕ → List Attempt → List ℕ
attempts_text number attempts = flat_map (attempt_line number) attempts

-- what a tick of a number prints: nothing where it ended with a fault
abbrev pub text_by : Result ⊤ NodeFault → List ℕ → List ℕ
text_by (Ok done) text = text
text_by (Err fault) text = []

abbrev pub tick_text : ℕ → Tick → List ℕ
tick_text number tick = text_by tick.end (attempts_text number tick.attempts)

-- what ticks print, counted from here on
abbrev pub ticks_text : ℕ → List Tick → List ℕ
ticks_text number [] = []
ticks_text number (tick ∷ ticks) = tick_text number tick ++ ticks_text (number + 1) ticks
