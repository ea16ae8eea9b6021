-- Facts that tell no stream anything make no token.
use Rattle.std.proofs.Common.{◌≡◌, ap, ℕ, List, [], ◌∷◌, flat_map, true, None, refl}
use Rattle.sig_terms.specs.declared.fact.Fact.{Fact}
use Rattle.sig_history.specs.Streams.{Stream, Parts}
use Rattle.sig_history.specs.Facts.{made_by, tells, token_for}
use Rattle.sig_history.specs.Sound.{may_be_made}

abbrev pub IsSilent : Fact → Type 0
IsSilent f = (s : Stream) → tells f s ≡ None

silent_all : (store : List ℕ) (f : Fact) → IsSilent f → (ss : List Stream) → flat_map (token_for store f) ss ≡ []
silent_all store f none [] = refl
silent_all store f none (s ∷ ss) = rw (none s) (silent_all store f none ss)

pub none_made : (parts : Parts) (f : Fact) → IsSilent f → made_by parts f ≡ []
none_made parts f none = silent_all parts.store_id f none parts.streams

pub nothing_may_be_made : (parts : Parts) (f : Fact) → IsSilent f → may_be_made (made_by parts f) ≡ true
nothing_may_be_made parts f none = ap may_be_made (none_made parts f none)
