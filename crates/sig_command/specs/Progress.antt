-- How far a command has come with the lines of its input.
use Rattle.std.specs.Prelude.{◌≡◌, ◌⊎◌, ◌+◌, ℕ, List, [], ◌++◌, Option, Some, None, length}
use Rattle.std.specs.Io.KnownBytes.{Appends, Consumes}
use Rattle.std.specs.Str.Lines.{lines}
use Rattle.sig_outside.specs.Causes.{AppendsPrefix}
use Rattle.sig_outside.specs.Reading.{Reading}
use Rattle.sig_outside.specs.declared.line.Line.{Line}
use Rattle.sig_outside.specs.declared.line.Line.TheVariants as line
use Rattle.sig_outside.specs.declared.line.LineFault.{LineFault}
use Rattle.sig_outside.specs.declared.line.LineFault.TheVariants as faults
use Rattle.sig_command.specs.declared.lines_end.LinesEnd.{LinesEnd}
use Rattle.sig_command.specs.declared.lines_end.LinesEnd.TheVariants.{Done, Stopped as StoppedSo, Input, Output, Memory}
use Rattle.sig_command.specs.declared.stop.Stop.{Stop}
use Rattle.sig_command.specs.declared.stop.Stop.TheVariants as stops
use Rattle.sig_command.specs.declared.stop.TellFault.TheVariants as tell
use Rattle.sig_command.specs.Telling.{Telling, AreLinesOf, TakesLine, StopsAt}
use Rattle.sig_command.specs.WholeLines.{whole_lines}

-- the command has taken so many lines, and none of them stopped it
abbrev pub Stood : Telling → (List (List ℕ) → Type 0) → ℕ → Type 0
Stood t stands number = (given : List (List ℕ)) × stands given × (t.stop given ≡ None) × (length given ≡ number)

-- the bytes of a line that the reader gave, none of a long one
abbrev pub bytes_in : Line → Option (List ℕ)
bytes_in (line.Text number bytes) = Some bytes
bytes_in (line.Long number) = None
bytes_in line.End = None

-- this prefix of the input ends with the LF of the last of these lines
pub record EndsWith (prefix : List ℕ) (given : List (List ℕ)) : Type 0 where
  pub whole : (rest : List ℕ) → whole_lines (prefix ++ rest) ≡ given ++ whole_lines rest
  pub each : (rest : List ℕ) → lines (prefix ++ rest) ≡ given ++ lines rest

-- nothing is left, and these are all lines
pub record IsRead (input kept rest : List ℕ) (given : List (List ℕ)) : Type 0 where
  pub none_kept : kept ≡ []
  pub none_left : rest ≡ []
  pub all : given ≡ lines input

-- of the input these lines were given; these bytes are kept, and those are left
pub record Progress (input kept rest : List ℕ) (given : List (List ℕ)) : Type 0 where
  pub prefix : List ℕ
  pub parts : input ≡ prefix ++ (kept ++ rest)
  pub so_far : EndsWith prefix given ⊎ IsRead input kept rest given

-- where a command over a told input stands between two lines: what was written after the old output and what is
-- gathered is what the lines so far print
pub record Standing (t : Telling) (stands : List (List ℕ) → Type 0) (input : List ℕ) (reader : Reading) (left : Option (List ℕ)) (gathered : List ℕ) (old new : Option (List ℕ)) : Type 0 where
  pub given : List (List ℕ)
  pub rest : List ℕ
  pub told : left ≡ Some rest
  pub progress : Progress input reader.kept rest given
  pub number : reader.number ≡ length given
  pub taken : reader.taken ≡ length (progress.prefix ++ reader.kept)
  pub stood : stands given
  pub going : t.stop given ≡ None
  pub text : List ℕ
  pub wrote : Appends old new text
  pub printed : text ++ gathered ≡ t.text given

-- the input stopped: these lines were given
pub record Stopped (t : Telling) (input : List ℕ) (left : Option (List ℕ)) (gathered : List ℕ) (old new : Option (List ℕ)) : Type 0 where
  pub read : List ℕ
  pub consumed : Consumes (Some input) left read
  pub given : List (List ℕ)
  pub are : AreLinesOf given input read
  pub going : t.stop given ≡ None
  pub text : List ℕ
  pub wrote : Appends old new text
  pub printed : text ++ gathered ≡ t.text given

-- a line stopped the command, and it was read
pub record StoppedBy (t : Telling) (input : List ℕ) (left : Option (List ℕ)) (gathered : List ℕ) (old new : Option (List ℕ)) (s : Stop) : Type 0 where
  pub stop : t.stop (lines input) ≡ Some s
  pub read : List ℕ
  pub consumed : Consumes (Some input) left read
  pub by : t.stop (lines read) ≡ Some s
  pub text : List ℕ
  pub wrote : Appends old new text
  pub printed : text ++ gathered ≡ t.text (lines input)

-- the whole input was read, and all its lines were given
pub record ReadAll (t : Telling) (stands : List (List ℕ) → Type 0) (input : List ℕ) (left : Option (List ℕ)) (gathered : List ℕ) (old new : Option (List ℕ)) : Type 0 where
  pub told : left ≡ Some []
  pub stood : stands (lines input)
  pub going : t.stop (lines input) ≡ None
  pub text : List ℕ
  pub wrote : Appends old new text
  pub printed : text ++ gathered ≡ t.text (lines input)

-- how the lines of a told input ended
abbrev pub LinesEnded : Telling → (List (List ℕ) → Type 0) → List ℕ → Option (List ℕ) → List ℕ → Option (List ℕ) → Option (List ℕ) → LinesEnd → Type 0
LinesEnded t stands input left gathered old new Done = ReadAll t stands input left gathered old new
LinesEnded t stands input left gathered old new (StoppedSo (stops.Line n)) = StoppedBy t input left gathered old new (stops.Line n)
LinesEnded t stands input left gathered old new (StoppedSo (stops.Full n)) =
    ((s : Stopped t input left gathered old new) × (length s.read ≡ n)) ⊎ StoppedBy t input left gathered old new (stops.Full n)
LinesEnded t stands input left gathered old new Input = Stopped t input left gathered old new
LinesEnded t stands input left gathered old new Output = AppendsPrefix old new (t.text (lines input))
LinesEnded t stands input left gathered old new Memory = AppendsPrefix old new (t.text (lines input))

-- how a command ends where the reader stops
abbrev pub ending_by : LineFault → LinesEnd
ending_by faults.Failed = Input
ending_by (faults.Endless n) = StoppedSo (stops.Full n)
ending_by faults.Memory = Memory

-- a line after so many was taken
abbrev pub Telt : Telling → (List (List ℕ) → Type 0) → (List (List ℕ) → Type 0) → ℕ → ℕ → Line → List ℕ → List ℕ → Type 0
Telt t stood stands room before l gathered gathered' = TakesLine t stood stands room (before + 1) (bytes_in l) gathered gathered'

-- why a line of a number wasn't taken: it stops the command, or memory ended
abbrev pub NotTaken : Telling → (List (List ℕ) → Type 0) → ℕ → ℕ → Option (List ℕ) → List ℕ → List ℕ → LinesEnd → Type 0
NotTaken t stood room number bytes gathered gathered' Done = ⊥
NotTaken t stood room number bytes gathered gathered' (StoppedSo s) =
    StopsAt t stood room number bytes (tell.Stopped s) × (gathered' ≡ gathered)
NotTaken t stood room number bytes gathered gathered' Input = ⊥
NotTaken t stood room number bytes gathered gathered' Output = ⊥
NotTaken t stood room number bytes gathered gathered' Memory = gathered' ≡ gathered

-- why no line was taken after so many: it is the end of the input, and nothing changed; or the line wasn't taken
abbrev pub Untold : Telling → (List (List ℕ) → Type 0) → (List (List ℕ) → Type 0) → ℕ → ℕ → Line → List ℕ → List ℕ → LinesEnd → Type 0
Untold t stood stands room before l gathered gathered' e =
    ((e ≡ Done) × (l ≡ line.End) × ((given : List (List ℕ)) → stood given → stands given) × (gathered' ≡ gathered))
    ⊎ ((l ≡ line.End → ⊥) × NotTaken t stood room (before + 1) (bytes_in l) gathered gathered' e)

-- the lines stopped, and what is gathered is still to be put
abbrev pub IsStop : LinesEnd → Type 0
IsStop Done = ⊥
IsStop (StoppedSo s) = Unit {0}
IsStop Input = Unit {0}
IsStop Output = ⊥
IsStop Memory = ⊥
