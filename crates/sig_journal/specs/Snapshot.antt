-- What a store tells once a snapshot stands in place of its records.
use Rattle.std.specs.Prelude.{◌≡◌, ◌⊎◌, ℕ, ◌+◌, ◌^◌, List, [], Bool, not, nat_le, nat_lt, if◌then◌else◌, Option, Some, None, Result, Ok, Err}
use Rattle.sig_json.specs.declared.limits.TheConstants.{LAST_NUMBER}
use Rattle.sig_journal.specs.Journal.{store_with}
use Rattle.sig_journal.specs.declared.checkpoint.fault.CheckFault.{CheckFault}
use Rattle.sig_journal.specs.declared.checkpoint.fault.CheckFault.TheVariants.{Store, Big, Memory}
use Rattle.sig_journal.specs.declared.checkpoint.heading.Heading.{Heading}
use Rattle.sig_journal.specs.Beside.{TellsBefore}

-- with this image of the other file that file is in force, whichever of the two it is, with the store's name, the snapshot and no record
abbrev pub TellsSnapshot : Heading → List ℕ → List ℕ → List ℕ → Type 0
TellsSnapshot header snapshot written image =
    (in_b : Bool) → store_with in_b header.kind written image
    ≡ Ok (record { in_b = not in_b; content = record { store_id = header.store_id; snapshot = snapshot; records = [] } })

-- the store tells what it told before, or the snapshot
abbrev pub TellsEither : Heading → List ℕ → List ℕ → List ℕ → List ℕ → Type 0
TellsEither header snapshot written before image = TellsBefore header.kind written before image ⊎ TellsSnapshot header snapshot written image

-- the first number that is too great: the snapshot's length, or the next generation
abbrev pub too_great : ℕ → ℕ → Option ℕ
too_great generation size =
    if nat_le (2 ^ 32) size then Some size else (if nat_lt LAST_NUMBER (generation + 1) then Some (generation + 1) else None)

-- the answer of a call that came to the disk
abbrev pub CallsDisk : {T : Type 0} → Result T CheckFault → Type 0
CallsDisk (Ok x) = Unit {0}
CallsDisk (Err Store) = Unit {0}
CallsDisk (Err (Big n)) = ⊥
CallsDisk (Err Memory) = ⊥
