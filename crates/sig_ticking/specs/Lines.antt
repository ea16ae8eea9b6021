-- One tick a line: how the lines of an input end, and what was printed by then.
use Rattle.std.specs.Prelude.{◌≡◌, ◌⊎◌, ◌≤◌, ◌+◌, ℕ, List, [], ◌++◌, length, Bool, true, false, Option, Some, IfSome, Result, Ok, Err, ⊤}
use Rattle.std.specs.Io.KnownBytes.{Appends, Consumes}
use Rattle.std.specs.Str.Lines.{lines}
use Rattle.sig_command.specs.Moment as moments
use Rattle.sig_command.specs.Moment.{Calm, InputCalm, Moment, OutputCalm, OutputState, OutputStopped}
use Rattle.sig_command.specs.Progress.{Progress}
use Rattle.sig_command.specs.Telling.{AreLinesOf}
use Rattle.sig_courier.specs.declared.attempt.Attempt.{Attempt}
use Rattle.sig_journal.specs.declared.node_fault.NodeFault.{NodeFault}
use Rattle.sig_journal.specs.declared.node_fault.NodeFault.TheVariants as node
use Rattle.sig_json.specs.declared.limits.TheConstants.{LAST_NUMBER}
use Rattle.sig_opening.specs.Watches.{AreInRow}
use Rattle.sig_outside.specs.Causes.{AppendsPrefix}
use Rattle.sig_outside.specs.Reading.{Reading}
use Rattle.sig_outside.specs.declared.line.Line.{Line}
use Rattle.sig_outside.specs.declared.line.Line.TheVariants as line
use Rattle.sig_terms.specs.declared.rules.Rules.{Rules}
use Rattle.sig_ticking.specs.Texts.{attempts_text, ticks_text}
use Rattle.sig_ticking.specs.Ticks.{Between, GoOn, IsTickOf, StopWith, Tick}
use Rattle.sig_ticking.specs.declared.ending.CourierEnd.{CourierEnd}
use Rattle.sig_ticking.specs.declared.ending.CourierEnd.TheVariants.{Done, SettingsFailed, Refused, NoStore, StoreFailed, Damaged, InputFailed, OutputFailed, Full, Endless, Memory}

-- ---- by the end

-- the ticks of a run that ended so: each went on, but for the last one where the run ended with its fault. Where memory ran
-- out in a tick after its store had failed, the run ends with the store
abbrev pub EndTicks : CourierEnd → List Tick → Type 0
EndTicks Done ticks = GoOn ticks
EndTicks SettingsFailed ticks = ⊥
EndTicks (Refused member) ticks = ⊥
EndTicks NoStore ticks = ⊥
EndTicks StoreFailed ticks = StopWith node.Store ticks ⊎ StopWith node.Memory ticks
EndTicks (Damaged file at) ticks = ⊥
EndTicks InputFailed ticks = GoOn ticks
EndTicks OutputFailed ticks = GoOn ticks
EndTicks (Full n) ticks = StopWith (node.Full n) ticks
EndTicks (Endless n) ticks = GoOn ticks × (n ≡ LAST_NUMBER)
EndTicks Memory ticks = GoOn ticks ⊎ StopWith node.Memory ticks

-- what was written by then of what they print: all; a prefix where the output stopped or memory ran out
abbrev pub Printed : CourierEnd → List ℕ → Option (List ℕ) → Option (List ℕ) → Type 0
Printed Done text old new = Appends old new text
Printed SettingsFailed text old new = Appends old new text
Printed (Refused member) text old new = Appends old new text
Printed NoStore text old new = Appends old new text
Printed StoreFailed text old new = Appends old new text
Printed (Damaged file at) text old new = Appends old new text
Printed InputFailed text old new = Appends old new text
Printed OutputFailed text old new = AppendsPrefix old new text
Printed (Full n) text old new = Appends old new text
Printed (Endless n) text old new = Appends old new text
Printed Memory text old new = AppendsPrefix old new text

-- the input stopped once this was read, after so many lines
pub record CutOff (input : List ℕ) (left : Option (List ℕ)) (read : List ℕ) (count : ℕ) : Type 0 where
  pub consumed : Consumes (Some input) left read
  pub given : List (List ℕ)
  pub are : AreLinesOf given input read
  pub counted : length given ≡ count

-- so many lines of a told input were read by then, of which this is left: all; those that end in what was read, where the input
-- stopped; and no more than there are
abbrev pub ReadTo : CourierEnd → List ℕ → Option (List ℕ) → ℕ → Type 0
ReadTo Done input left count = (left ≡ Some []) × (count ≡ length (lines input))
ReadTo SettingsFailed input left count = count ≤ length (lines input)
ReadTo (Refused member) input left count = count ≤ length (lines input)
ReadTo NoStore input left count = count ≤ length (lines input)
ReadTo StoreFailed input left count = count ≤ length (lines input)
ReadTo (Damaged file at) input left count = count ≤ length (lines input)
ReadTo InputFailed input left count = (read : List ℕ) × CutOff input left read count
ReadTo OutputFailed input left count = count ≤ length (lines input)
ReadTo (Full n) input left count = count ≤ length (lines input)
ReadTo (Endless n) input left count = (read : List ℕ) × (length read ≡ n) × CutOff input left read count
ReadTo Memory input left count = count ≤ length (lines input)

-- why the run ended so, by what its input and its output counted: at an end by neither nothing failed
abbrev pub WhyEnded : CourierEnd → Moment → Moment → Type 0
WhyEnded Done before after = Calm before after
WhyEnded SettingsFailed before after = Calm before after
WhyEnded (Refused member) before after = Calm before after
WhyEnded NoStore before after = Calm before after
WhyEnded StoreFailed before after = Calm before after
WhyEnded (Damaged file at) before after = Calm before after
WhyEnded InputFailed before after = moments.InputFailed before.input after.input × OutputCalm before.output after.output
WhyEnded OutputFailed before after = InputCalm before.input after.input × OutputStopped before.output after.output
WhyEnded (Full n) before after = Calm before after
WhyEnded (Endless n) before after = Calm before after
WhyEnded Memory before after = Calm before after

-- ---- all of it

-- these ticks were made, one a line, and the run ended so
pub record MakesTicks (rules : Rules) (end : CourierEnd) (old new : Between) (before after : Moment) : Type 0 where
  pub ticks : List Tick
  pub each : AreInRow (IsTickOf rules) ticks old new
  pub ends : EndTicks end ticks
  pub printed : Printed end (ticks_text 1 ticks) before.output.written after.output.written
  pub reads : IfSome before.input.left (λ input. ReadTo end input after.input.left (length ticks))
  pub cause : WhyEnded end before after

-- ---- on the way

-- whether there is no further line
abbrev pub is_last : Line → Bool
is_last (line.Text number bytes) = false
is_last (line.Long number) = false
is_last line.End = true

-- of a told input so many lines were given, and this is left
pub record ReadSoFar (input : List ℕ) (reader : Reading) (left : Option (List ℕ)) (count : ℕ) : Type 0 where
  pub given : List (List ℕ)
  pub rest : List ℕ
  pub told : left ≡ Some rest
  pub progress : Progress input reader.kept rest given
  pub taken : reader.taken ≡ length (progress.prefix ++ reader.kept)
  pub counted : length given ≡ count

-- so many ticks were made, and each went on
pub record GoesOn (rules : Rules) (count : ℕ) (old new : Between) (reader : Reading) (before after : Moment) : Type 0 where
  pub ticks : List Tick
  pub each : AreInRow (IsTickOf rules) ticks old new
  pub on : GoOn ticks
  pub counted : length ticks ≡ count
  pub printed : Appends before.output.written after.output.written (ticks_text 1 ticks)
  pub reads : IfSome before.input.left (λ input. ReadSoFar input reader after.input.left count)
  pub cause : Calm before after

-- the text of a tick was put, or why it wasn't: the output stopped after a prefix, or memory ran out before the first byte
abbrev pub PutsBy : CourierEnd → List ℕ → OutputState → OutputState → Type 0
PutsBy Done text before after = ⊥
PutsBy SettingsFailed text before after = ⊥
PutsBy (Refused member) text before after = ⊥
PutsBy NoStore text before after = ⊥
PutsBy StoreFailed text before after = ⊥
PutsBy (Damaged file at) text before after = ⊥
PutsBy InputFailed text before after = ⊥
PutsBy OutputFailed text before after = AppendsPrefix before.written after.written text × OutputStopped before after
PutsBy (Full n) text before after = ⊥
PutsBy (Endless n) text before after = ⊥
PutsBy Memory text before after = after ≡ before

abbrev pub PutsText : Result ⊤ CourierEnd → List ℕ → OutputState → OutputState → Type 0
PutsText (Ok done) text before after = Appends before.written after.written text × OutputCalm before after
PutsText (Err end) text before after = PutsBy end text before after

-- how a run ends with a tick that ended with this fault
abbrev pub IsEndBy : NodeFault → Result ⊤ CourierEnd → Type 0
IsEndBy node.Store result = result ≡ Err StoreFailed
IsEndBy (node.Full n) result = result ≡ Err (Full n)
IsEndBy node.Memory result = (result ≡ Err Memory) ⊎ (result ≡ Err StoreFailed)

-- a tick of a number ended so, and what it prints was put; where it ended with a fault, nothing was, and the run ends with that
abbrev pub PutsTick : ℕ → List Attempt → Result ⊤ NodeFault → Result ⊤ CourierEnd → OutputState → OutputState → Type 0
PutsTick number attempts (Ok done) result before after = PutsText result (attempts_text number attempts) before after
PutsTick number attempts (Err fault) result before after = IsEndBy fault result × (after ≡ before)
