-- How long a stream waits after late attempts, and what is kept of them.
use Rattle.std.specs.Prelude.{ℕ, zero, suc, ◌+◌, ◌-◌, ◌*◌, ◌^◌, min, Bool, if◌then◌else◌}
use Rattle.sig_courier.specs.declared.late.Late.{Late}

-- the wait after so many late attempts in a row: 30 seconds after the first, twice as long after each further one, an hour at most
abbrev pub wait_after : ℕ → ℕ
wait_after zero = 0
wait_after (suc n) = min 3600 (30 * 2 ^ n)

-- a stream that has no attempt
abbrev pub not_late : Late
not_late = record { due = 0; wait = 0; row = 0; at = 0 }

-- the wait after one more late attempt
abbrev pub next_wait : ℕ → ℕ
next_wait zero = 30
next_wait (suc w) = min 3600 (2 * suc w)

-- so many late attempts in a row, where that is a number of 64 bits
abbrev pub counted : ℕ → ℕ
counted n = min n (2 ^ 64 - 1)

-- how late it is after one more attempt
abbrev pub after : Late → ℕ → Bool → Late
after late at good =
    if good then record not_late { at = at }
    else record { due = at + next_wait late.wait; wait = next_wait late.wait; row = counted (late.row + 1); at = at }
