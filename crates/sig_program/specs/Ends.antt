-- How a run ends: for each ending its status, its cause, the bytes that were read and the text that was written.
use Rattle.std.specs.Prelude.{◌≡◌, ◌⊎◌, ℕ, List, [], ◌++◌, Option, Some, None, IfSome, codes, decimal}
use Rattle.std.specs.Io.KnownBytes.{Appends}
use Rattle.sig_outside.specs.Causes.{AppendsPrefix}
use Rattle.sig_command.specs.Moment.{Calm, InputCalm, Moment, OutputCalm, OutputState, OutputStopped}
use Rattle.sig_command.specs.Telling.{Telling, IsTextAt, WhyEnded, Wrote}
use Rattle.sig_command.specs.declared.lines_end.LinesEnd.TheVariants as ends
use Rattle.sig_command.specs.declared.stop.Stop.{Stop}
use Rattle.sig_command.specs.declared.stop.Stop.TheVariants as stops
use Rattle.sig_schedules.specs.Replay.{replay_telling}
use Rattle.sig_program.specs.Command.{command_of}
use Rattle.sig_program.specs.declared.command.Command.{Command}
use Rattle.sig_program.specs.declared.command.Command.TheVariants.{Fold, Replay}
use Rattle.sig_program.specs.declared.ending.Ending.{Ending}
use Rattle.sig_program.specs.declared.ending.Ending.TheVariants.{Usage, Ran}
use Rattle.sig_fold.specs.Fold.{fold_telling, trust_of}

-- what a command does with the lines of its input
abbrev pub telling_of : Command → Telling
telling_of (Fold issuer aud) = fold_telling (trust_of issuer aud) issuer.iss
telling_of Replay = replay_telling

-- the status of an ending
abbrev pub status_of : Ending → ℕ
status_of Usage = 1
status_of (Ran ends.Done) = 0
status_of (Ran (ends.Stopped (stops.Line n))) = 2
status_of (Ran (ends.Stopped (stops.Full n))) = 11
status_of (Ran ends.Input) = 3
status_of (Ran ends.Output) = 4
status_of (Ran ends.Memory) = 9

-- the last line of an ending: none at the end of the input and where the output stopped
abbrev pub last_line : Ending → List ℕ
last_line Usage = codes "signals: usage\n"
last_line (Ran ends.Done) = []
last_line (Ran (ends.Stopped (stops.Line n))) = codes "signals: line " ++ decimal n ++ codes "\n"
last_line (Ran (ends.Stopped (stops.Full n))) = codes "signals: full " ++ decimal n ++ codes "\n"
last_line (Ran ends.Input) = codes "signals: input failed\n"
last_line (Ran ends.Output) = []
last_line (Ran ends.Memory) = codes "signals: memory\n"

-- how a command ends by its lines alone: at the end of the input, or as the first that stops it says
abbrev pub ending_at : Option Stop → Ending
ending_at None = Ran ends.Done
ending_at (Some s) = Ran (ends.Stopped s)

-- what a run that ends so has written before its last line, over a told input of which this is left
abbrev pub IsTextOf : Option Command → List ℕ → Option (List ℕ) → Ending → List ℕ → Type 0
IsTextOf None input left Usage t = t ≡ []
IsTextOf None input left (Ran ends.Done) t = ⊥
IsTextOf None input left (Ran (ends.Stopped s)) t = ⊥
IsTextOf None input left (Ran ends.Input) t = ⊥
IsTextOf None input left (Ran ends.Output) t = ⊥
IsTextOf None input left (Ran ends.Memory) t = t ≡ []
IsTextOf (Some c) input left Usage t = ⊥
IsTextOf (Some c) input left (Ran e) t = IsTextAt (telling_of c) input left e t

-- such a text was written after the old output, and then the last line of its ending
abbrev pub WroteLined : Option Command → List ℕ → Moment → Moment → Ending → Type 0
WroteLined command input before after e =
    (t : List ℕ) × IsTextOf command input after.input.left e t × Appends before.output.written after.output.written (t ++ last_line e)

-- a prefix of such a text and its last line was written
abbrev pub WrotePrefixLined : Option Command → List ℕ → Moment → Moment → Type 0
WrotePrefixLined command input before after =
    (e : Ending) × (t : List ℕ) × IsTextOf command input after.input.left e t
    × AppendsPrefix before.output.written after.output.written (t ++ last_line e)

-- what was written: where the output stopped a prefix, else the whole
abbrev pub WroteAll : Option Command → List ℕ → Moment → Moment → Ending → Type 0
WroteAll command input before after Usage = WroteLined command input before after Usage
WroteAll command input before after (Ran ends.Done) = WroteLined command input before after (Ran ends.Done)
WroteAll command input before after (Ran (ends.Stopped s)) = WroteLined command input before after (Ran (ends.Stopped s))
WroteAll command input before after (Ran ends.Input) = WroteLined command input before after (Ran ends.Input)
WroteAll command input before after (Ran ends.Output) = WrotePrefixLined command input before after
WroteAll command input before after (Ran ends.Memory) = WroteLined command input before after (Ran ends.Memory)

-- why a run ends so, by what its input and its output counted
abbrev pub Cause : Option Command → Moment → Moment → Ending → Type 0
Cause None before after Usage = Calm before after
Cause None before after (Ran ends.Done) = ⊥
Cause None before after (Ran (ends.Stopped s)) = ⊥
Cause None before after (Ran ends.Input) = ⊥
Cause None before after (Ran ends.Output) = InputCalm before.input after.input × OutputStopped before.output after.output
Cause None before after (Ran ends.Memory) = Calm before after
Cause (Some c) before after Usage = ⊥
Cause (Some c) before after (Ran e) = WhyEnded (telling_of c) before after e

-- the run ended so: by its cause; and where the input is told, by what was read and written
pub record EndedBy (command : Option Command) (before after : Moment) (e : Ending) : Type 0 where
  pub cause : Cause command before after e
  pub text : IfSome before.input.left (λ told. WroteAll command told before after e)

-- the run of these words ended with this status
abbrev pub RanWith : List (List ℕ) → Moment → Moment → ℕ → Type 0
RanWith words before after status = (e : Ending) × (status ≡ status_of e) × EndedBy (command_of words) before after e

-- what was written before the last line: nothing where the words are no command
abbrev pub Spoke : Option Command → List ℕ → Moment → Moment → Ending → Type 0
Spoke None input before after e = after.output.written ≡ before.output.written
Spoke (Some c) input before after Usage = ⊥
Spoke (Some c) input before after (Ran e) = Wrote (telling_of c) input before after e

-- the output is as it was
abbrev pub IsUntouched : OutputState → OutputState → Type 0
IsUntouched before after = (after.written ≡ before.written) × OutputCalm before after

-- how the last line of an ending was put: it has none, and nothing was done; it was put whole; or the output stopped
-- after a prefix of it
abbrev pub Finished : Ending → OutputState → OutputState → Ending → Type 0
Finished ending before after e =
    ((last_line ending ≡ []) × (e ≡ ending) × IsUntouched before after)
    ⊎ (((e ≡ ending) × (ending ≡ Ran ends.Output → ⊥) × Appends before.written after.written (last_line ending) × OutputCalm before after)
    ⊎ ((e ≡ Ran ends.Output) × (ending ≡ Ran ends.Output → ⊥) × AppendsPrefix before.written after.written (last_line ending) × OutputStopped before after))
