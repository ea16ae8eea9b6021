-- What a call leaves of a transmitter's node.
use Rattle.std.specs.Prelude.{◌≡◌, ◌⊎◌, ℕ, ◌≤◌, List, ◌++◌, Bool, true, Option, None, is_some, Result, Ok, Err, IsErrOf, IfSome, OnOk}
use Rattle.std.specs.Option.{option_to_list}
use Rattle.sig_json.specs.declared.limits.TheConstants.{LAST_NUMBER}
use Rattle.sig_outside.specs.Disk.{LeavesOnly, Stop}
use Rattle.sig_journal.specs.Added.{RestsWith}
use Rattle.sig_journal.specs.Journal.{BothTold, IsAtRest, told_store}
use Rattle.sig_journal.specs.Appended.{Breaks, HasRecord, LeavesRecord, WritesOne}
use Rattle.sig_journal.specs.declared.node_fault.NodeFault.{NodeFault}
use Rattle.sig_journal.specs.declared.node_fault.NodeFault.TheVariants.{Store, Full, Memory}
use Rattle.sig_journal.specs.Standing.{Loads, LoadsEither}
use Rattle.sig_journal.specs.Stored.{SameJournal, Stored}
use Rattle.sig_journal.specs.Taking.{loaded}
use Rattle.sig_terms.specs.declared.answer.Answer.{Answer}
use Rattle.sig_terms.specs.declared.call.Call.{Call}
use Rattle.sig_terms.specs.declared.fact.Fact.{Fact}
use Rattle.sig_history.specs.Owed.{Sum}
use Rattle.sig_calls.specs.Table.{change_of}
use Rattle.sig_entry.specs.Facts.{spelling_of}
use Rattle.sig_txnode.specs.Answering.{end_with, sum_after, when_ok}
use Rattle.sig_txnode.specs.Node.{NodeView}
use Rattle.sig_txnode.specs.Records.{sending}
use Rattle.sig_txnode.specs.Turns.{with_turn}

-- the turn and its change are kept, each last; want of memory leaves both lists; rules and base stay
pub record Kept {D : Type 0} (old new : NodeView D) (link : ℕ) (call : Call) (now : ℕ) (result : Result Answer NodeFault) : Type 0 where
  pub turns : new.turns ≡ with_turn old.turns link call now result
  pub entries : new.entries ≡ old.entries ++ option_to_list (when_ok result (change_of old.rules old.state call now))
  pub rules : new.rules ≡ old.rules
  pub base : new.base ≡ old.base

-- a call whose change was brought to the disk
abbrev pub IsCarried : {T : Type 0} → Result T NodeFault → Type 0
IsCarried (Ok x) = Unit {0}
IsCarried (Err Store) = Unit {0}
IsCarried (Err (Full n)) = ⊥
IsCarried (Err Memory) = ⊥

-- at any moment of the call a crash leaves the state before or the state after, unless the store was broken before; once it
-- answers Ok no crash takes the change away; a disk that stands still rests with one of the two; the change's record is what
-- was added; and a call that changes nothing leaves the store as it is
pub record Lasts {D T : Type 0} (told : D → Bool) (seen : D → List ℕ) (may_leave : D → List ℕ → Type 0) (moment : D → ℕ) (left_since : D → ℕ → List ℕ → Type 0) (stop : D → Option Stop) (short : D → Bool) (old new : Stored D) (before : Sum) (change : Option Fact) (result : Result T NodeFault) : Type 0 where
  pub any_moment : old.broken_at ≡ None → BothTold told old.journal
      → LeavesOnly moment left_since old.journal.written new.journal.written (LoadsEither sending seen old.journal before (sum_after before change))
  pub acknowledged : OnOk result (IsAtRest told seen may_leave new.journal × (BothTold told old.journal → loaded sending (told_store seen new.journal) ≡ Ok (sum_after before change)))
  pub stopped : IfSome change (λ f. old.broken_at ≡ None → IsCarried result → BothTold told old.journal → end_with old.journal.end f ≤ LAST_NUMBER
      → RestsWith (Loads sending seen old.journal before) (Loads sending seen old.journal (sum_after before change)) (stop old.journal.written) (stop new.journal.written) (short new.journal.written) result)
  pub recorded : IfSome change (λ f. old.broken_at ≡ None → IsCarried result → LeavesRecord told seen moment left_since stop short old.journal new.journal (spelling_of f) result)
  pub added : IfSome change (λ f. OnOk result (HasRecord told seen may_leave old new (spelling_of f)))
  pub files : WritesOne told old.journal new.journal
  pub idle : change ≡ None → new ≡ old

-- why a call was refused, and what a refusal leaves: the disk counted a fault in this turn, whose number is kept from then on,
-- or the store was broken before; any other refusal leaves the store as it is
pub record Refused {D T : Type 0} (faults : D → ℕ) (old new : Stored D) (turn : ℕ) (result : Result T NodeFault) : Type 0 where
  pub store : IsErrOf result Store → (is_some old.broken_at ≡ true) ⊎ Breaks faults old new turn
  pub broken : is_some old.broken_at ≡ true → new ≡ old
  pub whole : (IsErrOf result Store → ⊥) → new.broken_at ≡ old.broken_at
  pub full : (n : ℕ) → IsErrOf result (Full n) → new ≡ old
  pub memory : IsErrOf result Memory → new ≡ old
  pub steady : OnOk result (faults new.journal.written ≡ faults old.journal.written)
  pub later : faults old.journal.written ≤ faults new.journal.written

-- all but the files stays
pub record StaysBeside {D : Type 0} (old new : NodeView D) : Type 0 where
  pub store : SameJournal old.store new.store
  pub rules : new.rules ≡ old.rules
  pub state : new.state ≡ old.state
  pub base : new.base ≡ old.base
  pub entries : new.entries ≡ old.entries
  pub turns : new.turns ≡ old.turns
