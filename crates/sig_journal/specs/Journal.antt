-- A journal that is open: its files, and what it knows of them.
use Rattle.std.specs.Prelude.{◌≡◌, ◌⊎◌, ℕ, ◌+◌, ◌*◌, ◌<◌, ◌≤◌, List, length, Bool, true, false, IsTrue, Result, Ok}
use Rattle.sig_outside.specs.Disk.{Only}
use Rattle.sig_json.specs.declared.limits.TheConstants.{LAST_NUMBER}
use Rattle.sig_journal.specs.declared.fault.LoadFault.{LoadFault}
use Rattle.sig_journal.specs.declared.kind.Kind.{Kind}
use Rattle.sig_journal.specs.Gates.{BeginsOpen}
use Rattle.sig_journal.specs.Layout.{Content, end_of}
use Rattle.sig_journal.specs.Store.{InForce, Told, gate_of, tells}

-- the file in force, which records are added to, and the other one; whether the second file is in force; whose store it is; how many records stand after the snapshot; the place after the last gate; whether a call failed; the generation of the file in force; whether the header gate of the other one is open; and the store's name
pub record Open (D : Type 0) : Type 0 where
  pub written : D
  pub other : D
  pub in_b : Bool
  pub kind : Kind
  pub records : ℕ
  pub end : ℕ
  pub broken : Bool
  pub generation : ℕ
  pub other_open : Bool
  pub store_id : List ℕ

-- what a store tells whose file in force, the second or the first, has these bytes
abbrev pub store_with : Bool → Kind → List ℕ → List ℕ → Result Told LoadFault
store_with true kind written other = tells kind other written
store_with false kind written other = tells kind written other

-- what the store tells where the file in force is this image
abbrev pub image_store : {D : Type 0} → (D → List ℕ) → Open D → List ℕ → Result Told LoadFault
image_store seen journal image = store_with journal.in_b journal.kind image (seen journal.other)

-- what the store tells
abbrev pub told_store : {D : Type 0} → (D → List ℕ) → Open D → Result Told LoadFault
told_store seen journal = image_store seen journal (seen journal.written)

-- both files are told
abbrev pub BothTold : {D : Type 0} → (D → Bool) → Open D → Type 0
BothTold told journal = IsTrue (told journal.written) × IsTrue (told journal.other)

-- what a store tells that ends here and has so many records
pub record Stands (told : Result Told LoadFault) (in_b : Bool) (end records : ℕ) : Type 0 where
  pub content : Content
  pub tells : told ≡ Ok (record { in_b = in_b; content = content })
  pub ends : end ≡ end_of content
  pub counts : records ≡ length content.records

-- both files are what a crash would leave, and a journal where they are told
pub record IsAtRest {D : Type 0} (told : D → Bool) (seen : D → List ℕ) (may_leave : D → List ℕ → Type 0) (journal : Open D) : Type 0 where
  pub written : Only (seen journal.written) (may_leave journal.written)
  pub other : Only (seen journal.other) (may_leave journal.other)
  pub stands : BothTold told journal → Stands (told_store seen journal) journal.in_b journal.end journal.records

-- the numbers of a journal
pub record HasPlaces (records end : ℕ) : Type 0 where
  pub records_fit : 5 * records + 36 ≤ end
  pub end_fits : end ≤ LAST_NUMBER

-- where a file is told, a journal knows of the one in force what it holds, and of the other whether its gate is open
pub record KnowsFiles {D : Type 0} (told : D → Bool) (seen : D → List ℕ) (journal : Open D) : Type 0 where
  pub written : IsTrue (told journal.written) → InForce journal.kind (seen journal.written) journal.end journal.generation journal.store_id
  pub other : IsTrue (told journal.other) → BeginsOpen journal.other_open (gate_of (seen journal.other))

-- what a journal knows of its files is the same
pub record SameFiles {D : Type 0} (old new : Open D) : Type 0 where
  pub generation : new.generation ≡ old.generation
  pub other_open : new.other_open ≡ old.other_open
  pub store_id : new.store_id ≡ old.store_id

-- what every journal keeps to: its numbers fit, it is at rest and knows its files unless a call failed, and where one failed a disk has counted it
pub record IsSound {D : Type 0} (told : D → Bool) (seen : D → List ℕ) (may_leave : D → List ℕ → Type 0) (faults : D → ℕ) (journal : Open D) : Type 0 where
  pub places : HasPlaces journal.records journal.end
  pub generation_fits : journal.generation ≤ LAST_NUMBER
  pub rests : journal.broken ≡ false → IsAtRest told seen may_leave journal
  pub knows : journal.broken ≡ false → KnowsFiles told seen journal
  pub counted : journal.broken ≡ true → (0 < faults journal.written) ⊎ (0 < faults journal.other)
