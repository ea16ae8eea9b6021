-- What a receiver keeps of its journal, over what it began with.
use Rattle.std.specs.Prelude.{◌≡◌, ◌<◌, ℕ, List, [], ◌∷◌, ◌++◌, Bool, true, false, Option, Some, None, IfSome, is_some, if◌then◌else◌}
use Rattle.sig_inbox.specs.declared.pair.Pair.{Pair}
use Rattle.sig_inbox.specs.Pairs.{has_pair}
use Rattle.sig_event.specs.declared.claims.Claims.{Claims}
use Rattle.sig_set.specs.declared.trust.Trust.{Trust}
use Rattle.sig_set.specs.Judgement.{Judgement, Valid, Refused, judged}
use Rattle.sig_sessions.specs.declared.row.Row.{Row}
use Rattle.sig_sessions.specs.Changes as changes
use Rattle.sig_sessions.specs.Table.{effect}
use Rattle.sig_receiver.specs.declared.heard.Heard.{Heard}
use Rattle.sig_receiver.specs.declared.heard.Heard.TheVariants.{Accepted, Seen, NotTaken}
use Rattle.sig_receiver.specs.declared.hearing.Hearing.{Hearing}
use Rattle.sig_receiver.specs.declared.hearing.Ready.{Ready}
use Rattle.sig_receiver.specs.Journal.{pair_of, pairs_of, distinct}
use Rattle.sig_receiver.specs.Rows.{fold_rows}

-- the pairs of the tokens that were taken, in order, and the rows that they made
pub record Received : Type 0 where
  pub pairs : List Pair
  pub rows : List Row

abbrev pub nothing : Received
nothing = record { pairs = []; rows = [] }

-- what is kept after a journal, over what was kept before it: a text whose pair is known changes nothing
abbrev pub received_of : Received → List (List ℕ) → Received
received_of base journal = record {
  pairs = base.pairs ++ pairs_of (distinct base.pairs journal);
  rows = fold_rows base.rows (distinct base.pairs journal);
}

-- what is answered to a judgement, over the pairs that are known
abbrev pub heard_by : List Pair → Judgement → Heard
heard_by pairs (Valid claims) = if has_pair (pair_of claims) pairs then Seen else Accepted
heard_by pairs (Refused code spot) = NotTaken code spot

-- what is answered to a text, by trust, principal and name, over what is kept
abbrev pub heard_at : Trust → Option (List ℕ) → Option (List ℕ) → Received → List ℕ → Heard
heard_at trust principal named state text = heard_by state.pairs (judged trust principal named text)

-- ---- the receiver as it is held

-- for how many more pairs and rows there is room
pub record Rooms : Type 0 where
  pub pairs : ℕ
  pub rows : ℕ

-- what is kept, and the room for more
pub record Held : Type 0 where
  pub pairs : List Pair
  pub rows : List Row
  pub rooms : Rooms

abbrev pub received : Held → Received
received held = record { pairs = held.pairs; rows = held.rows }

-- what is kept is that of a journal, over what was kept before it
abbrev pub StandsOver : Received → Held → List (List ℕ) → Type 0
StandsOver base held journal = received held ≡ received_of base journal

-- the same over nothing
abbrev pub StandsFor : Held → List (List ℕ) → Type 0
StandsFor held journal = StandsOver nothing held journal

-- ---- what was made ready

-- what is kept with the new pair last, and the rows changed
abbrev pub committed : Ready → Received → Received
committed ready state = record {
  pairs = state.pairs ++ ready.pair ∷ [];
  rows = changes.applied ready.change state.rows;
}

-- the same, where there is something to take in
abbrev pub committed_if : Option Ready → Received → Received
committed_if None state = state
committed_if (Some ready) state = committed ready state

-- the pair is new, and all of it can be taken in without memory
pub record IsReady (held : Held) (ready : Ready) : Type 0 where
  pub new : has_pair ready.pair held.pairs ≡ false
  pub room : 0 < held.rooms.pairs
  pub change : changes.IsReady (record { rows = held.rows; room = held.rooms.rows }) ready.change

-- a token is valid and new
abbrev pub is_accepted : Heard → Bool
is_accepted Accepted = true
is_accepted Seen = false
is_accepted (NotTaken code spot) = false

-- what is kept with new claims: their pair last, and their effect on the rows
abbrev pub taken : Received → Claims → Received
taken state claims = record { pairs = state.pairs ++ pair_of claims ∷ []; rows = effect claims state.rows }

-- what is answered to valid claims, over what is kept, with what has to be taken in
pub record IsHearing (held : Held) (state : Received) (claims : Claims) (hearing : Hearing) : Type 0 where
  pub heard : hearing.heard ≡ (if has_pair (pair_of claims) state.pairs then Seen else Accepted)
  pub change : is_some hearing.change ≡ is_accepted hearing.heard
  pub ready : IfSome hearing.change (IsReady held)
  pub makes : committed_if hearing.change state ≡ (if has_pair (pair_of claims) state.pairs then state else taken state claims)
