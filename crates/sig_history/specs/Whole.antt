-- What holds of what every sound history comes to: streams stand once and in order, and what each owes is numbered.
use Rattle.std.specs.Prelude.{◌≡◌, ◌≤◌, ◌<◌, ℕ, List, [], ◌∷◌, true, false, All, ⊤}
use Rattle.sig_json.specs.declared.limits.TheConstants.{LAST_NUMBER}
use Rattle.sig_history.specs.Streams.{Stream, Count, Made, client_in, created_by, is_before, jti_of, stands, stream_name}
use Rattle.sig_history.specs.Owed.{Sum}
use Rattle.sig_history.specs.Sound.{is_small}

-- a stream stands before the next one, where there is one
abbrev pub StandsBefore : Stream → List Stream → Type 0
StandsBefore s [] = ⊤
StandsBefore s (t ∷ ts) = is_before s t ≡ true

-- each stands before the next: by client name, and then by number
abbrev pub AreSorted : List Stream → Type 0
AreSorted [] = ⊤
AreSorted (s ∷ ss) = StandsBefore s ss × AreSorted ss

-- numbers that rise from above one number and stay at another at most
abbrev pub IsRising : ℕ → List Made → ℕ → Type 0
IsRising below [] most = below ≤ most
IsRising below (t ∷ ts) most = (below < t.number) × IsRising t.number ts most

-- a token of this stream, with the identifier of its number
pub record IsOwnToken (store_id name : List ℕ) (t : Made) : Type 0 where
  pub stream : t.stream ≡ name
  pub jti : t.claims.jti ≡ jti_of store_id name t.number

-- a stream and what it owes: its name is that of its client and number, which the client's count has reached; what its
-- receiver set of it is within the limits; the tokens that it owes are its own, and their numbers rise up to the number of
-- those that were made
pub record IsWholeStream (store_id : List ℕ) (created : List Count) (s : Stream) (owed : List Made) : Type 0 where
  pub name : s.conf.stream ≡ stream_name s.client s.number
  pub client : client_in s.conf.stream ≡ s.client
  pub number : s.number ≤ created_by s.client created
  pub top : s.number ≤ LAST_NUMBER
  pub small : is_small s.conf.requested s.conf.delivery s.conf.description ≡ true
  pub made : s.made ≤ LAST_NUMBER
  pub rising : IsRising 0 owed s.made
  pub own : All (IsOwnToken store_id s.conf.stream) owed

-- each stream has its list of owed tokens, each name stands once, and each stands before the next
abbrev pub AreWhole : List ℕ → List Count → List Stream → List (List Made) → Type 0
AreWhole store_id created [] [] = ⊤
AreWhole store_id created [] (o ∷ os) = ⊥
AreWhole store_id created (s ∷ ss) [] = ⊥
AreWhole store_id created (s ∷ ss) (o ∷ os) =
    IsWholeStream store_id created s o × (stands s.conf.stream ss ≡ false) × StandsBefore s ss × AreWhole store_id created ss os

abbrev pub IsWhole : Sum → Type 0
IsWhole sum = AreWhole sum.parts.store_id sum.parts.created sum.parts.streams sum.owed
