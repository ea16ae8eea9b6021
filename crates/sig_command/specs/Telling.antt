-- What a command over the lines of its input prints, and how it ends.
use Rattle.std.specs.Prelude.{◌≡◌, ◌⊎◌, ◌<◌, ◌+◌, ℕ, List, [], ◌∷◌, ◌++◌, Option, Some, None, length}
use Rattle.std.specs.Io.KnownBytes.{Appends, Consumes}
use Rattle.std.specs.Str.Lines.{lines}
use Rattle.sig_json.specs.declared.limits.TheConstants.{LAST_NUMBER}
use Rattle.sig_outside.specs.Causes.{AppendsPrefix}
use Rattle.sig_command.specs.declared.lines_end.LinesEnd.{LinesEnd}
use Rattle.sig_command.specs.declared.lines_end.LinesEnd.TheVariants as ends
use Rattle.sig_command.specs.declared.stop.Stop.{Stop}
use Rattle.sig_command.specs.declared.stop.Stop.TheVariants as stops
use Rattle.sig_command.specs.declared.stop.TellFault.{TellFault}
use Rattle.sig_command.specs.declared.stop.TellFault.TheVariants as faults
use Rattle.sig_command.specs.Moment.{Calm, InputCalm, InputFailed, Moment, OutputCalm, OutputState, OutputStopped}
use Rattle.sig_command.specs.WholeLines.{whole_lines}

-- a command: what lines print, up to the first that stops it; why the first that stops it does; and what is printed
-- after the lines at the end of the input
pub record Telling : Type 0 where
  pub text : List (List ℕ) → List ℕ
  pub stop : List (List ℕ) → Option Stop
  pub last : List (List ℕ) → List ℕ

-- what is printed at the end, but where the lines stopped it
abbrev pub unless_stopped : Option Stop → List ℕ → List ℕ
unless_stopped None text = text
unless_stopped (Some s) text = []

-- the command's text for the whole input
abbrev pub whole_text : Telling → List ℕ → List ℕ
whole_text t input = t.text (lines input) ++ unless_stopped (t.stop (lines input)) (t.last (lines input))

-- these lines are those that end with an LF in what was read, or all where the whole input was read
abbrev pub AreLinesOf : List (List ℕ) → List ℕ → List ℕ → Type 0
AreLinesOf given input read = (given ≡ whole_lines read) ⊎ ((read ≡ input) × (given ≡ lines input))

-- of a told input this was read where the run stopped: it had printed the lines before that, and none of them stopped it
pub record IsTextOfLines (t : Telling) (input read text : List ℕ) : Type 0 where
  pub given : List (List ℕ)
  pub are : AreLinesOf given input read
  pub going : t.stop given ≡ None
  pub printed : text ≡ t.text given

-- the input stopped the command once this was read
abbrev pub IsCutOff : Telling → List ℕ → Option (List ℕ) → List ℕ → List ℕ → Type 0
IsCutOff t input left read text = Consumes (Some input) left read × IsTextOfLines t input read text

-- the line that stopped the command was read, and what is printed is what the lines print up to it
abbrev pub IsStoppedText : Telling → List ℕ → Option (List ℕ) → Stop → List ℕ → Type 0
IsStoppedText t input left s text =
    (t.stop (lines input) ≡ Some s) × (text ≡ t.text (lines input))
    × (read : List ℕ) × Consumes (Some input) left read × (t.stop (lines read) ≡ Some s)

-- what a command that ends so has written, over a told input of which this is left
abbrev pub IsTextAt : Telling → List ℕ → Option (List ℕ) → LinesEnd → List ℕ → Type 0
IsTextAt t input left ends.Done text = (left ≡ Some []) × (t.stop (lines input) ≡ None) × (text ≡ whole_text t input)
IsTextAt t input left (ends.Stopped (stops.Line n)) text = IsStoppedText t input left (stops.Line n) text
IsTextAt t input left (ends.Stopped (stops.Full n)) text =
    ((read : List ℕ) × (length read ≡ n) × IsCutOff t input left read text) ⊎ IsStoppedText t input left (stops.Full n) text
IsTextAt t input left ends.Input text = (read : List ℕ) × IsCutOff t input left read text
IsTextAt t input left ends.Output text = ⊥
IsTextAt t input left ends.Memory text = (rest : List ℕ) × (whole_text t input ≡ text ++ rest)

-- such a text was written after the old output
abbrev pub WroteWhole : Telling → List ℕ → Moment → Moment → LinesEnd → Type 0
WroteWhole t input before after e =
    (text : List ℕ) × IsTextAt t input after.input.left e text × Appends before.output.written after.output.written text

-- a prefix of such a text was written
abbrev pub WrotePrefix : Telling → List ℕ → Moment → Moment → Type 0
WrotePrefix t input before after =
    (e : LinesEnd) × (text : List ℕ) × IsTextAt t input after.input.left e text
    × AppendsPrefix before.output.written after.output.written text

-- what was written: where the output stopped a prefix, else the whole
abbrev pub Wrote : Telling → List ℕ → Moment → Moment → LinesEnd → Type 0
Wrote t input before after ends.Done = WroteWhole t input before after ends.Done
Wrote t input before after (ends.Stopped s) = WroteWhole t input before after (ends.Stopped s)
Wrote t input before after ends.Input = WroteWhole t input before after ends.Input
Wrote t input before after ends.Output = WrotePrefix t input before after
Wrote t input before after ends.Memory = WroteWhole t input before after ends.Memory

-- how the command ends where a line wasn't taken
abbrev pub ending_with : TellFault → LinesEnd
ending_with (faults.Stopped s) = ends.Stopped s
ending_with faults.Memory = ends.Memory

-- lines may stop the command so
abbrev pub CanStop : Telling → Stop → Type 0
CanStop t s = (given : List (List ℕ)) × (t.stop given ≡ Some s)

-- why a command is stopped so: by a line; or as many bytes were read as are counted
abbrev pub WhyStopped : Telling → Stop → Type 0
WhyStopped t (stops.Line n) = CanStop t (stops.Line n)
WhyStopped t (stops.Full n) = (n ≡ LAST_NUMBER) ⊎ CanStop t (stops.Full n)

-- why a command ends so, by what its input and its output counted: at an ending by neither nothing failed
abbrev pub WhyEnded : Telling → Moment → Moment → LinesEnd → Type 0
WhyEnded t before after ends.Done = Calm before after
WhyEnded t before after (ends.Stopped s) = WhyStopped t s × Calm before after
WhyEnded t before after ends.Input = InputFailed before.input after.input × OutputCalm before.output after.output
WhyEnded t before after ends.Output =
    (InputCalm before.input after.input ⊎ InputFailed before.input after.input) × OutputStopped before.output after.output
WhyEnded t before after ends.Memory = Calm before after

-- why a text that is put ends so
abbrev pub WhyPut : OutputState → OutputState → LinesEnd → Type 0
WhyPut before after ends.Done = OutputCalm before after
WhyPut before after (ends.Stopped s) = ⊥
WhyPut before after ends.Input = ⊥
WhyPut before after ends.Output = OutputStopped before after
WhyPut before after ends.Memory = OutputCalm before after

-- how a text was put: whole; or a prefix of it, where memory ended or the output stopped
abbrev pub PutSo : List ℕ → Option (List ℕ) → Option (List ℕ) → LinesEnd → Type 0
PutSo whole old new ends.Done = Appends old new whole
PutSo whole old new (ends.Stopped s) = ⊥
PutSo whole old new ends.Input = ⊥
PutSo whole old new ends.Output = AppendsPrefix old new whole
PutSo whole old new ends.Memory = AppendsPrefix old new whole

-- the bytes of a line: a long line's aren't known, but that there is no room for them
abbrev pub IsLineOf : ℕ → Option (List ℕ) → List ℕ → Type 0
IsLineOf room (Some bytes) line = line ≡ bytes
IsLineOf room None line = room < length line

-- a line is taken: it doesn't stop the command, and what it prints is gathered
abbrev pub TakesLine : Telling → (List (List ℕ) → Type 0) → (List (List ℕ) → Type 0) → ℕ → ℕ → Option (List ℕ) → List ℕ → List ℕ → Type 0
TakesLine t stood stands room number bytes gathered gathered' =
    (given : List (List ℕ)) (line : List ℕ) → stood given → t.stop given ≡ None → number ≡ length given + 1 → IsLineOf room bytes line
    → stands (given ++ line ∷ []) × (t.stop (given ++ line ∷ []) ≡ None)
    × (text : List ℕ) × (gathered' ≡ gathered ++ text) × (t.text (given ++ line ∷ []) ≡ t.text given ++ text)

-- a line isn't taken: it stops the command, or memory ends
abbrev pub StopsAt : Telling → (List (List ℕ) → Type 0) → ℕ → ℕ → Option (List ℕ) → TellFault → Type 0
StopsAt t stood room number bytes (faults.Stopped s) =
    (given : List (List ℕ)) (line : List ℕ) → stood given → t.stop given ≡ None → number ≡ length given + 1 → IsLineOf room bytes line
    → (t.stop (given ++ line ∷ []) ≡ Some s) × (t.text (given ++ line ∷ []) ≡ t.text given)
StopsAt t stood room number bytes faults.Memory = Unit {0}
