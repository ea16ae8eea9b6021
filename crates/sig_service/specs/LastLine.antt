-- How a last line is put.
use Rattle.std.specs.Prelude.{◌≡◌, ◌⊎◌, ℕ, List}
use Rattle.std.specs.Io.KnownBytes.{Appends}
use Rattle.sig_outside.specs.Causes.{AppendsPrefix}
use Rattle.sig_command.specs.Moment.{OutputCalm, OutputState, OutputStopped}

-- the run ends with the wanted status after the whole line, or with 4 where the output stopped after a prefix of it
abbrev pub PutLast : ℕ → List ℕ → OutputState → OutputState → ℕ → Type 0
PutLast wanted line before after status =
    ((status ≡ wanted) × Appends before.written after.written line × OutputCalm before after)
    ⊎ ((status ≡ 4) × AppendsPrefix before.written after.written line × OutputStopped before after)
