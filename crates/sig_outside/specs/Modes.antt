-- What a reader of lines is once a line or a fault came.
use Rattle.std.specs.Prelude.{ℕ, Result, Ok, Err}
use Rattle.sig_outside.specs.Lines.{number_after}
use Rattle.sig_outside.specs.declared.line.Line.{Line}
use Rattle.sig_outside.specs.declared.line.LineFault.{LineFault}
use Rattle.sig_outside.specs.declared.line.LineFault.TheVariants.{Failed, Endless, Memory}
use Rattle.sig_outside.specs.declared.mode.Mode.{Mode}
use Rattle.sig_outside.specs.declared.mode.Mode.TheVariants.{Open, Failing, Spent}

-- a fault leaves the number
abbrev pub number_once : ℕ → Result Line LineFault → ℕ
number_once before (Ok line) = number_after before line
number_once before (Err fault) = before

-- an open reader stays open but for the first failure of its source and running out of memory
abbrev pub mode_once : Result Line LineFault → Mode
mode_once (Ok line) = Open
mode_once (Err Failed) = Failing
mode_once (Err (Endless n)) = Open
mode_once (Err Memory) = Spent
