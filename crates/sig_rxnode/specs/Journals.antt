-- What a call leaves of what a node holds, and why it refuses.
use Rattle.std.specs.Prelude.{◌≡◌, ◌⊎◌, ℕ, ◌<◌, List, [], ◌∷◌, ◌++◌, Bool, Option, None, Result, Err, IsErrOf, OnErr, OnOk}
use Rattle.sig_json.specs.declared.limits.TheConstants.{LAST_NUMBER}
use Rattle.sig_outside.specs.Disk.{Stop}
use Rattle.sig_entry.specs.Tokens.{token_spelling}
use Rattle.sig_receiver.specs.Receiver.{received_of}
use Rattle.sig_journal.specs.Appended.{Breaks, HasRecord, LeavesRecord}
use Rattle.sig_journal.specs.Standing.{Durable}
use Rattle.sig_journal.specs.Stored.{Stored}
use Rattle.sig_journal.specs.declared.node_fault.NodeFault.{NodeFault}
use Rattle.sig_journal.specs.declared.node_fault.NodeFault.TheVariants.{Store, Full, Memory}
use Rattle.sig_rxnode.specs.Holding.{Holding}
use Rattle.sig_rxnode.specs.Records.{receiving}
use Rattle.sig_rxnode.specs.Turns.{end_after}

-- at Ok these texts were added to the journal and taken in; after a fault what is kept is as before
pub record Adds {D T E : Type 0} (texts : List (List ℕ)) (old new : Holding D) (result : Result T E) : Type 0 where
  pub state : OnOk result (new.state ≡ received_of old.state texts)
  pub entries : OnOk result (new.entries ≡ old.entries ++ texts)
  pub state_kept : OnErr result (new.state ≡ old.state)
  pub entries_kept : OnErr result (new.entries ≡ old.entries)

-- what becomes of the store: where no text is added nothing is written; where one is, a crash at any moment leaves the state before or after it, and at Ok no crash takes it away; and its record is what was added
pub record Writes {D T : Type 0} (told : D → Bool) (seen : D → List ℕ) (may_leave : D → List ℕ → Type 0) (moment : D → ℕ) (left_since : D → ℕ → List ℕ → Type 0) (stop : D → Option Stop) (short : D → Bool) (texts : List (List ℕ)) (old new : Holding D) (result : Result T NodeFault) : Type 0 where
  pub unwritten : texts ≡ [] → new.store ≡ old.store
  pub durable : (text : List ℕ) → texts ≡ text ∷ [] → old.store.broken_at ≡ None → (IsErrOf result Memory → ⊥)
      → Durable receiving told seen may_leave moment left_since stop short (token_spelling text) old.store new.store old.state (received_of old.state (text ∷ [])) result
  pub recorded : (text : List ℕ) → texts ≡ text ∷ [] → old.store.broken_at ≡ None → (IsErrOf result Memory → ⊥)
      → LeavesRecord told seen moment left_since stop short old.store.journal new.store.journal (token_spelling text) result
  pub added : (text : List ℕ) → texts ≡ text ∷ [] → OnOk result (HasRecord told seen may_leave old.store new.store (token_spelling text))

-- the end that the journal would have with this text's record
abbrev pub end_with : {D : Type 0} → Holding D → List ℕ → ℕ
end_with holding text = end_after holding.store.journal.end text

-- a text is to be added, and the journal would end with it at this place, past 2^62
pub record Passes {D : Type 0} (old : Holding D) (texts : List (List ℕ)) (n : ℕ) : Type 0 where
  pub text : List ℕ
  pub adds : texts ≡ text ∷ []
  pub ends : n ≡ end_with old text
  pub past : LAST_NUMBER < n

-- the disk failed as a text was added in this turn, and counted it
pub record Fails {D : Type 0} (faults : D → ℕ) (old new : Stored D) (texts : List (List ℕ)) (turn : ℕ) : Type 0 where
  pub text : List ℕ
  pub adds : texts ≡ text ∷ []
  pub breaks : Breaks faults old new turn

-- why a call is refused while the store isn't broken
pub record Causes {D T : Type 0} (faults : D → ℕ) (texts : List (List ℕ)) (turn : ℕ) (old new : Holding D) (result : Result T NodeFault) : Type 0 where
  pub store : IsErrOf result Store → Fails faults old.store new.store texts turn
  pub full : (n : ℕ) → IsErrOf result (Full n) → Passes old texts n
  pub must : (n : ℕ) → Passes old texts n → (result ≡ Err (Full n)) ⊎ (result ≡ Err Memory)
  pub full_same : (n : ℕ) → IsErrOf result (Full n) → new.store ≡ old.store
  pub memory_same : IsErrOf result Memory → new.store ≡ old.store
  pub steady : (IsErrOf result Store → ⊥) → faults new.store.journal.written ≡ faults old.store.journal.written
