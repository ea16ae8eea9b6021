-- When a stream is due, by the log of all attempts.
use Rattle.std.specs.Prelude.{◌≡◌, ℕ, suc, ◌+◌, List, [], ◌∷◌, Bool, true, reverse, filter, bytes_eq, is_some, unwrap_or, if◌then◌else◌}
use Rattle.std.specs.Map.{lookup}
use Rattle.sig_courier.specs.declared.attempt.Attempt.{Attempt}
use Rattle.sig_courier.specs.declared.late.Late.{Late}
use Rattle.sig_courier.specs.Waits.{counted, not_late, wait_after}

-- the attempts of a stream, the last one first
abbrev pub attempts_of : List ℕ → List Attempt → List Attempt
attempts_of stream log = reverse (filter (λ (a : Attempt). bytes_eq a.stream stream) log)

-- how many of them came after the last good one
abbrev pub lates : List Attempt → ℕ
lates [] = 0
lates (last ∷ earlier) = if last.good then 0 else suc (lates earlier)

-- when the next may come: at any time where there is none or the last one was good, and else after its wait
abbrev pub due_after : List Attempt → ℕ
due_after [] = 0
due_after (last ∷ earlier) = if last.good then 0 else last.at + wait_after (suc (lates earlier))

abbrev pub due : List Attempt → List ℕ → ℕ
due log stream = due_after (attempts_of stream log)

-- when the last one was made
abbrev pub last_at : List Attempt → ℕ
last_at [] = 0
last_at (last ∷ earlier) = last.at

-- how late a stream is after these attempts
abbrev pub late_after : List Attempt → Late
late_after attempts =
    record { due = due_after attempts; wait = wait_after (lates attempts); row = counted (lates attempts); at = last_at attempts }

-- what is kept of streams, by their names
abbrev pub Kept : Type 0
Kept = List (List ℕ × Late)

-- how late a stream is by what is kept
abbrev pub late_in : Kept → List ℕ → Late
late_in kept stream = unwrap_or (lookup (bytes_eq stream) kept) not_late

-- something is kept of it
abbrev pub is_known : Kept → List ℕ → Bool
is_known kept stream = is_some (lookup (bytes_eq stream) kept)

-- what is kept is what the log says of each stream
abbrev pub IsLogged : Kept → List Attempt → Type 0
IsLogged kept log = (stream : List ℕ) → late_in kept stream ≡ late_after (attempts_of stream log)

-- no attempt was noted
abbrev pub StaysLogged : Kept → Kept → Type 0
StaysLogged old new = (stream : List ℕ) → late_in new stream ≡ late_in old stream

-- something is kept still of each stream of which something was
abbrev pub StaysKnown : Kept → Kept → Type 0
StaysKnown old new = (stream : List ℕ) → is_known old stream ≡ true → is_known new stream ≡ true
