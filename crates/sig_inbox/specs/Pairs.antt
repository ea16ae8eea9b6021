-- What tokens are known by: pairs of issuer and identifier, each once (RFC 8417, section 2.2).
use Rattle.std.specs.Prelude.{ℕ, List, [], ◌∷◌, ◌++◌, Bool, true, not, ◌&&◌, bytes_eq, if◌then◌else◌}
use Rattle.std.specs.List.{list_any}
use Rattle.sig_inbox.specs.declared.pair.Pair.{Pair}

-- the same issuer and identifier
abbrev pub pair_eq : Pair → Pair → Bool
pair_eq a b = bytes_eq a.iss b.iss && bytes_eq a.jti b.jti

-- whether the pair is one of them
abbrev pub has_pair : Pair → List Pair → Bool
has_pair pair pairs = list_any (pair_eq pair) pairs

-- each is there once
abbrev pub are_distinct : List Pair → Bool
are_distinct [] = true
are_distinct (pair ∷ pairs) = not (has_pair pair pairs) && are_distinct pairs

-- the pairs with this one, last where it is new
abbrev pub with_pair : Pair → List Pair → List Pair
with_pair pair pairs = if has_pair pair pairs then pairs else pairs ++ pair ∷ []

-- pairs, and for how many more there is room
pub record Held : Type 0 where
  pub pairs : List Pair
  pub room : ℕ
