-- What turns make of a receiver's node.
use Rattle.std.specs.Prelude.{◌≡◌, ◌⊎◌, ℕ, List, [], ◌∷◌, ◌++◌, length, Bool, true, is_some, IfOk, IsErrOf, Result, Err}
use Rattle.sig_journal.specs.Appended.{Breaks, WritesOne}
use Rattle.sig_journal.specs.declared.node_fault.NodeFault.TheVariants as node
use Rattle.sig_set.specs.declared.trust.Trust.{Trust}
use Rattle.sig_receiver.specs.Receiver.{Received}
use Rattle.sig_rxnode.specs.declared.call.RxCall.{RxCall}
use Rattle.sig_rxnode.specs.declared.turn.RxTurn.{RxTurn}
use Rattle.sig_rxnode.specs.Answers.{answer_of}
use Rattle.sig_rxnode.specs.Journals.{Passes}
use Rattle.sig_rxnode.specs.Node.{NodeView, base_of}
use Rattle.sig_rxnode.specs.Take.{added_by}
use Rattle.sig_rxnode.specs.Turns.{after_turn, after_turns, changes_of}
use Rattle.sig_fetch.specs.declared.fault.FetchFault.{FetchFault}
use Rattle.sig_fetch.specs.declared.fault.FetchFault.TheVariants.{Store, Full}

-- each turn that has an answer has that of the table, over what is kept before it
abbrev pub AreAnswered : Trust → Received → List RxTurn → Type 0
AreAnswered trust state [] = Unit {0}
AreAnswered trust state (turn ∷ turns) =
    IfOk turn.result (λ answer. answer ≡ answer_of trust state turn.call) × AreAnswered trust (after_turn trust state turn) turns

-- a node has these turns more, and what they make of it; its settings and the place where its watch began stay
pub record Grows {D : Type 0} (more : List RxTurn) (old new : NodeView D) : Type 0 where
  pub turns : new.turns ≡ old.turns ++ more
  pub answers : AreAnswered old.rules.trust old.kept.state more
  pub state : new.kept.state ≡ after_turns old.rules.trust old.kept.state more
  pub entries : new.kept.entries ≡ old.kept.entries ++ changes_of old.rules.trust old.kept.state more
  pub rules : new.rules ≡ old.rules
  pub opened : new.opened ≡ old.opened
  pub base : base_of new ≡ base_of old

-- the journal would end past 2^62 with the token of the last turn, and the store is as it was
pub record IsFull {D : Type 0} (new : NodeView D) (n : ℕ) : Type 0 where
  pub earlier : List RxTurn
  pub call : RxCall
  pub last : new.turns ≡ earlier ++ record { link = 0; call = call; result = Err (node.Full n) } ∷ []
  pub passes : Passes new.kept (added_by new call) n

-- why a node ends a fetch, and what becomes of its store: `Store` comes where it was broken before, or where the disk failed
-- in the last turn and counted it; `Full` where a token found no room in the journal; with any other end the disk hasn't
-- failed; and the file in force alone was written
pub record Halts {D : Type 0} {T : Type 0} (told : D → Bool) (faults : D → ℕ) (old new : NodeView D) (end : Result T FetchFault) : Type 0 where
  pub store : IsErrOf end Store → (is_some old.kept.store.broken_at ≡ true) ⊎ Breaks faults old.kept.store new.kept.store (length new.turns)
  pub full : (n : ℕ) → IsErrOf end (Full n) → IsFull new n
  pub whole : (IsErrOf end Store → ⊥) → new.kept.store.broken_at ≡ old.kept.store.broken_at
  pub steady : (IsErrOf end Store → ⊥) → faults new.kept.store.journal.written ≡ faults old.kept.store.journal.written
  pub files : WritesOne told old.kept.store.journal new.kept.store.journal
