-- What the two files of a store tell, one of which is in force.
use Rattle.std.specs.Prelude.{◌≡◌, ◌⊎◌, ℕ, List, [], ◌∷◌, ◌++◌, Bool, true, false, nat_lt, ◌==◌, if◌then◌else◌, Result, Ok, Err}
use Rattle.sig_journal.specs.declared.fault.LoadFault.{LoadFault}
use Rattle.sig_journal.specs.declared.fault.LoadFault.TheVariants.{Damaged}
use Rattle.sig_journal.specs.declared.gate.Gate.{Gate}
use Rattle.sig_journal.specs.declared.gate.Gate.TheVariants.{NoByte, Closed, Opened}
use Rattle.sig_journal.specs.declared.kind.Kind.{Kind}
use Rattle.sig_journal.specs.declared.layout.TheConstants.{GATE_OPEN}
use Rattle.sig_journal.specs.Layout.{Content, content_of, end_of, generation_of}

-- how a file begins: with no byte, a closed gate, or an open one and its generation
abbrev pub gate_of : List ℕ → Gate
gate_of [] = NoByte
gate_of (gate ∷ bytes) = if gate == GATE_OPEN then Opened (generation_of (gate ∷ bytes)) else Closed

-- whether the second file is the one in force, or which file is damaged at its first byte
abbrev pub in_force : Gate → Gate → Result Bool LoadFault
in_force (Opened first) (Opened second) = Ok (nat_lt first second)
in_force (Opened first) Closed = Ok false
in_force (Opened first) NoByte = Err (Damaged 1 0)
in_force Closed (Opened second) = Ok true
in_force Closed Closed = Err (Damaged 0 0)
in_force Closed NoByte = Err (Damaged 0 0)
in_force NoByte second = Err (Damaged 0 0)

-- the second file, or the first
abbrev pub pick : {T : Type 0} → Bool → T → T → T
pick true a b = b
pick false a b = a

-- the number of a file
abbrev pub file_number : Bool → ℕ
file_number true = 1
file_number false = 0

-- what a store tells: which file is in force, and what it holds
pub record Told : Type 0 where
  pub in_b : Bool
  pub content : Content

abbrev pub told_in : Bool → Result Content ℕ → Result Told LoadFault
told_in in_b (Ok content) = Ok (record { in_b = in_b; content = content })
told_in in_b (Err at) = Err (Damaged (file_number in_b) at)

abbrev pub told_by : Kind → List ℕ → List ℕ → Result Bool LoadFault → Result Told LoadFault
told_by kind a b (Ok in_b) = told_in in_b (content_of kind (pick in_b a b))
told_by kind a b (Err fault) = Err fault

-- what a store of these two files tells, or the file and the offset at which it is damaged
abbrev pub tells : Kind → List ℕ → List ℕ → Result Told LoadFault
tells kind a b = told_by kind a b (in_force (gate_of a) (gate_of b))

abbrev pub add_record : Content → List ℕ → Content
add_record content payload = record content { records = content.records ++ payload ∷ [] }

-- the same with one record more
abbrev pub with_record : Result Told LoadFault → List ℕ → Result Told LoadFault
with_record (Ok told) payload = Ok (record told { content = add_record told.content payload })
with_record (Err fault) payload = Err fault

-- a store tells what it told before, or that with the record
abbrev pub IsBeforeOrAfter : Result Told LoadFault → List ℕ → Result Told LoadFault → Type 0
IsBeforeOrAfter before payload now = (now ≡ before) ⊎ (now ≡ with_record before payload)

-- a file in force: it begins with an open gate and this generation, holds the store of this name, and ends here
pub record InForce (kind : Kind) (bytes : List ℕ) (end generation : ℕ) (store_id : List ℕ) : Type 0 where
  pub content : Content
  pub holds : content_of kind bytes ≡ Ok content
  pub ends : end ≡ end_of content
  pub named : content.store_id ≡ store_id
  pub begins : gate_of bytes ≡ Opened generation

-- a value of a file, or the offset at which that file is damaged
abbrev pub in_file_at : {T : Type 0} → ℕ → Result T ℕ → Result T LoadFault
in_file_at file (Ok x) = Ok x
in_file_at file (Err at) = Err (Damaged file at)
