-- What all streams of a transmitter come to together.
use Rattle.std.specs.Prelude.{ℕ, length}
use Rattle.std.specs.List.{sum_by}
use Rattle.sig_history.specs.Owed.{Sum}

-- how many tokens they owe
abbrev pub owed_in_all : Sum → ℕ
owed_in_all s = sum_by length s.owed
