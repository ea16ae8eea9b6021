-- The lines that name the members of settings that nothing is taken of.
use Rattle.std.specs.Prelude.{ℕ, ◌-◌, List, [], ◌∷◌, ◌++◌, map, take, length, nat_le, codes, decimal, if◌then◌else◌}
use Rattle.sig_settings.specs.Paths.{Path, path_text}
use Rattle.sig_stray.specs.declared.line.TheConstants.{LINES}
use Rattle.sig_stray.specs.declared.stray.Stray.{Stray}
use Rattle.sig_stray.specs.declared.stray.StrayKind.{StrayKind}
use Rattle.sig_stray.specs.declared.stray.StrayKind.TheVariants.{Unknown, Twice}
use Rattle.sig_stray.specs.declared.table.ObjectKind.{ObjectKind}
use Rattle.sig_stray.specs.Strays.{strays_of}

-- nobody reads a member of the name at this path
abbrev pub unknown : Path → List ℕ
unknown path = codes "settings unknown " ++ path_text path

-- the member at this path stands in its object again
abbrev pub twice : Path → List ℕ
twice path = codes "settings twice " ++ path_text path

abbrev pub line_by : StrayKind → Path → List ℕ
line_by Unknown path = unknown path
line_by Twice path = twice path

-- the line of a stray; its path has the form of one that is refused
abbrev pub line_of : Stray → List ℕ
line_of stray = line_by stray.kind stray.path

-- so many more have no line
abbrev pub more : ℕ → List ℕ
more count = codes "settings more " ++ decimal count

abbrev pub more_lines : List Stray → List (List ℕ)
more_lines strays = if nat_le (length strays) LINES then [] else more (length strays - LINES) ∷ []

-- a line for each of the first 16, and one that says how many more there are
abbrev pub lines_of : List Stray → List (List ℕ)
lines_of strays = map line_of (take LINES strays) ++ more_lines strays

-- the lines over the bytes of settings of a kind
abbrev pub lines_on : ObjectKind → List ℕ → List (List ℕ)
lines_on kind bytes = lines_of (strays_of kind bytes)
