-- Bearers of which no two are equal.
use Rattle.std.specs.Prelude.{◌≡◌, ◌<◌, ℕ, List, [], length, get_or}

-- each of these bearers stands there once: two places with one bearer are one place
abbrev pub EachOnce : List (List ℕ) → Type 0
EachOnce bearers = (i j : ℕ) → i < length bearers → j < length bearers → get_or bearers i [] ≡ get_or bearers j [] → i ≡ j
