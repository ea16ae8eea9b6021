-- The identifiers of all tokens that a transmitter makes (RFC 8417, section 2.2).
use Rattle.std.specs.Prelude.{◌≡◌, ℕ, List, ◌++◌, true, bytes_eq, map, flat_map}
use Rattle.std.specs.List.{IsDistinct}
use Rattle.sig_terms.specs.declared.fact.Fact.{Fact}
use Rattle.sig_history.specs.Streams.{Made}
use Rattle.sig_history.specs.Facts.{tokens_of}
use Rattle.sig_history.specs.Owed.{Sum}
use Rattle.sig_history.specs.Sound.{is_sound}
use Rattle.sig_history.specs.Whole.{IsWhole}

abbrev pub jti_in : Made → List ℕ
jti_in t = t.claims.jti

-- all tokens that are owed, stream by stream
abbrev pub all_owed : List (List Made) → List Made
all_owed owed = flat_map (λ (tokens : List Made). tokens) owed

-- of those that what is whole owes, as a new store that owes none, and those that facts make over it, settled or not and
-- whatever is deleted between, no two have one identifier
abbrev pub IdentifiersDiffer : Type 0
IdentifiersDiffer = (base : Sum) (facts : List Fact) → IsWhole base → is_sound base facts ≡ true
    → IsDistinct bytes_eq (map jti_in (all_owed base.owed ++ tokens_of base.parts facts))
