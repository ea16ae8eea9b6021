-- Bearers of settings: each is of one caller alone, so that no caller is taken for another (RFC 6750, section 1).
use Rattle.std.specs.Prelude.{ℕ, ◌+◌, List, [], ◌∷◌, ◌++◌, Bool, bytes_eq, codes, Option, Some, None, Result, Ok, Err, if◌then◌else◌}
use Rattle.std.specs.List.{list_any}
use Rattle.sig_settings.specs.declared.fault.SettingsFault.{SettingsFault}
use Rattle.sig_settings.specs.declared.fault.SettingsFault.TheVariants.{Refused}
use Rattle.sig_settings.specs.declared.path.Step.TheVariants.{Member, Place}
use Rattle.sig_settings.specs.Paths.{Path, path_text}

-- a bearer, and where it stands
pub record Placed : Type 0 where
  pub bearer : List ℕ
  pub path : Path

-- the bearers of the items of a list, from this place on
abbrev pub placed_from : {T : Type 0} → (T → List ℕ) → List ℕ → ℕ → List T → List Placed
placed_from text name n [] = []
placed_from text name n (x ∷ xs) =
    record { bearer = text x; path = Member name ∷ Place n ∷ Member (codes "bearer") ∷ [] } ∷ placed_from text name (n + 1) xs

-- this bearer was read before
abbrev pub was_read : List (List ℕ) → List ℕ → Bool
was_read read bearer = list_any (λ b. bytes_eq b bearer) read

-- where the first of these bearers stands that was read before, be it among those already read or among these
abbrev pub repeated : List (List ℕ) → List Placed → Option Path
repeated read [] = None
repeated read (p ∷ ps) = if was_read read p.bearer then Some p.path else repeated (read ++ p.bearer ∷ []) ps

abbrev pub unless_at : Option Path → Result (Unit {0}) SettingsFault
unless_at None = Ok tt
unless_at (Some path) = Err (Refused (path_text path))

-- these bearers, in the order of reading, are of one caller each: the later of two equal ones is told
abbrev pub differ : List (List ℕ) → List Placed → Result (Unit {0}) SettingsFault
differ read ps = unless_at (repeated read ps)
