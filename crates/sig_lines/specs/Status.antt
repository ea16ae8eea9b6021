-- How a run ends: its status, and its cause.
use Rattle.std.specs.Prelude.{ℕ, Result, Ok, Err}
use Rattle.sig_lines.specs.declared.running.RunFault.{RunFault}
use Rattle.sig_lines.specs.declared.running.RunFault.TheVariants.{Input, Output, Memory, Full}

-- the status of an ending
abbrev pub status_of : {T : Type 0} → Result T RunFault → ℕ
status_of (Ok x) = 0
status_of (Err Input) = 3
status_of (Err Output) = 4
status_of (Err Memory) = 9
status_of (Err Full) = 11
