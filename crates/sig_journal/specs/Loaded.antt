-- What a load gives of what a store tells.
use Rattle.std.specs.Prelude.{◌≡◌, ◌⊎◌, ℕ, ◌+◌, ◌≤◌, List, length, Bool, IsTrue, Result, Ok, Err}
use Rattle.sig_json.specs.declared.limits.TheConstants.{LAST_NUMBER}
use Rattle.sig_journal.specs.declared.fault.LoadFault.{LoadFault}
use Rattle.sig_journal.specs.declared.fault.LoadFault.TheVariants.{Memory, Store}
use Rattle.sig_journal.specs.declared.loading.Found.{Found}
use Rattle.sig_journal.specs.declared.kind.Kind.{Kind}
use Rattle.sig_journal.specs.Content.{content_view}
use Rattle.sig_journal.specs.Gates.{BeginsOpen}
use Rattle.sig_journal.specs.Layout.{end_of, places_of}
use Rattle.sig_journal.specs.Store.{InForce, Told, gate_of}

-- it is what was to be read, or the fault of that, unless a disk failed or memory ran out
abbrev pub Reads : {T : Type 0} → Result T LoadFault → Result T LoadFault → Type 0
Reads told (Ok x) = told ≡ Ok x
Reads told (Err fault) = (fault ≡ Memory) ⊎ (fault ≡ Store) ⊎ (told ≡ Err fault)

-- the file in force, where it is told, is what was found, and the other one, where it is told, begins so
pub record IsOf {D : Type 0} (told : D → Bool) (seen : D → List ℕ) (kind : Kind) (found : Found) (written other : D) : Type 0 where
  pub in_force : IsTrue (told written) → InForce kind (seen written) found.content.end found.content.generation found.content.store_id
  pub begins : IsTrue (told other) → BeginsOpen found.other_open (gate_of (seen other))

-- what a store tells, as it was read
abbrev pub found_view : Found → Told
found_view found = record { in_b = found.in_b; content = content_view found.content }

-- the numbers of what was found: the places of the gates of its records and after the last gate, and the generation
pub record HasPlaces (found : Found) : Type 0 where
  pub ends : found.content.end ≡ end_of (content_view found.content)
  pub gates : found.content.places ≡ places_of (35 + length found.content.snapshot) found.content.records
  pub bound : found.content.end ≤ LAST_NUMBER
  pub generation_fits : found.content.generation ≤ LAST_NUMBER
