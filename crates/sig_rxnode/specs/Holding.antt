-- What a node holds: its store, what is kept, and the token texts of its journal.
use Rattle.std.specs.Prelude.{◌≡◌, ℕ, List, Bool, None}
use Rattle.sig_journal.specs.Journal.{IsAtRest}
use Rattle.sig_receiver.specs.Receiver.{Received, nothing, received_of}
use Rattle.sig_journal.specs.Standing.{StandsFor}
use Rattle.sig_journal.specs.Stored.{Stored}
use Rattle.sig_rxnode.specs.Records.{receiving}

pub record Holding (D : Type 0) : Type 0 where
  pub store : Stored D
  pub state : Received
  pub entries : List (List ℕ)

-- what is kept is that of the token texts, and the store stands for it
pub record IsHolding {D : Type 0} (told : D → Bool) (seen : D → List ℕ) (may_leave : D → List ℕ → Type 0) (holding : Holding D) : Type 0 where
  pub replays : holding.state ≡ received_of nothing holding.entries
  pub rests : holding.store.broken_at ≡ None → IsAtRest told seen may_leave holding.store.journal
  pub stands : StandsFor receiving told seen may_leave holding.store holding.state
