-- What a load of a receiver's store gives.
use Rattle.std.specs.Prelude.{◌≡◌, ◌⊎◌, Result, Ok, Err, IfOk}
use Rattle.sig_journal.specs.declared.fault.LoadFault.{LoadFault}
use Rattle.sig_journal.specs.declared.fault.LoadFault.TheVariants.{Memory, Store}
use Rattle.sig_journal.specs.declared.loaded.Loaded.{Loaded}
use Rattle.sig_journal.specs.declared.loaded.LoadRefused.{LoadRefused}
use Rattle.sig_journal.specs.Store.{Told}
use Rattle.sig_journal.specs.Taking.{loaded}
use Rattle.sig_rxnode.specs.Holding.{Holding}
use Rattle.sig_rxnode.specs.Records.{receiving, texts_of}

-- what is held is what the store stands for, and the token texts are those of its records
pub record HoldsTold {D : Type 0} (told : Result Told LoadFault) (holding : Holding D) : Type 0 where
  pub state : loaded receiving told ≡ Ok holding.state
  pub entries : IfOk told (λ t. holding.entries ≡ texts_of t.content.records)

-- what is loaded is what the store stands for, or the fault is the one that the store has, unless a disk failed or memory ran out
abbrev pub LoadsTold : {D T : Type 0} → (T → Holding D) → Result Told LoadFault → Result T (LoadRefused D) → Type 0
LoadsTold holding told (Ok node) = HoldsTold told (holding node)
LoadsTold holding told (Err refused) = (refused.fault ≡ Memory) ⊎ (refused.fault ≡ Store) ⊎ (loaded receiving told ≡ Err refused.fault)

-- what a load of the journal gives, as what a store tells
abbrev pub content_told : {D : Type 0} → Loaded D → Told
content_told l = record { in_b = l.journal.in_b; content = record { store_id = l.store_id; snapshot = l.snapshot; records = l.records } }
