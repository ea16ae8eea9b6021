-- Why bytes weren't read.
use Rattle.std.specs.Prelude.{◌≡◌, ℕ}
use Rattle.sig_outside.specs.Causes.{Raised, Rose}
use Rattle.sig_opening.specs.declared.reading.ReadFault.{ReadFault}
use Rattle.sig_opening.specs.declared.reading.ReadFault.TheVariants.{Failed, Memory}

-- by the count of a source's faults: it failed, and its count is raised by one; or memory ran out, and its count stays
abbrev pub Halts : ReadFault → ℕ → ℕ → Type 0
Halts Failed before now = Raised before now
Halts Memory before now = now ≡ before

-- by the count of the settings' faults: it rose; or memory ran out, and it stays
abbrev pub HaltsReading : ReadFault → ℕ → ℕ → Type 0
HaltsReading Failed before now = Rose before now
HaltsReading Memory before now = now ≡ before
