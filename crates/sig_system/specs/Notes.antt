-- Which lines on standard error are told, and what is shown of them.
use Rattle.std.specs.Prelude.{ℕ, List, ◌-◌, map, take, Bool, ◌&&◌, ◌||◌, nat_lt, if◌then◌else◌}
use Rattle.sig_system.specs.declared.topics.TheConstants.{NOTE_SECONDS}
use Rattle.sig_system.specs.declared.showing.TheConstants.{NOTE_BYTES}

-- a byte that is no printable character of ASCII is shown as a question mark
abbrev pub shown_byte : ℕ → ℕ
shown_byte byte = if nat_lt 31 byte && nat_lt byte 127 then byte else 63

-- what is shown of a line
abbrev pub shown : List ℕ → List ℕ
shown line = map shown_byte (take NOTE_BYTES line)

-- whether a line about a topic is told now, of which the last was told then: a minute later, or where the clock went back
abbrev pub is_due : ℕ → ℕ → Bool
is_due last now = nat_lt now last || nat_lt (NOTE_SECONDS - 1) (now - last)
