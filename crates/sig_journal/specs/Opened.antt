-- What a load gives.
use Rattle.std.specs.Prelude.{◌≡◌, ◌⊎◌, ℕ, List, Bool, false, Result, Ok, Err}
use Rattle.sig_journal.specs.declared.fault.LoadFault.{LoadFault}
use Rattle.sig_journal.specs.declared.fault.LoadFault.TheVariants.{Memory, Store}
use Rattle.sig_journal.specs.declared.kind.Kind.{Kind}
use Rattle.sig_journal.specs.declared.loaded.Loaded.{Loaded}
use Rattle.sig_journal.specs.declared.loaded.LoadRefused.{LoadRefused}
use Rattle.sig_journal.specs.Journal.{IsAtRest}
use Rattle.sig_journal.specs.Store.{Told}

-- it is what the store tells, or the fault that the store has, unless a disk failed or memory ran out
abbrev pub LoadsAs : {D : Type 0} → Result Told LoadFault → Result (Loaded D) (LoadRefused D) → Type 0
LoadsAs told (Ok loaded) =
    told ≡ Ok (record { in_b = loaded.journal.in_b; content = record { store_id = loaded.store_id; snapshot = loaded.snapshot; records = loaded.records } })
LoadsAs told (Err refused) = (refused.fault ≡ Memory) ⊎ (refused.fault ≡ Store) ⊎ (told ≡ Err refused.fault)

-- the journal is open, at rest and not broken
pub record Opens {D : Type 0} (told : D → Bool) (seen : D → List ℕ) (may_leave : D → List ℕ → Type 0) (kind : Kind) (loaded : Loaded D) : Type 0 where
  pub kind_same : loaded.journal.kind ≡ kind
  pub whole : loaded.journal.broken ≡ false
  pub rests : IsAtRest told seen may_leave loaded.journal
