-- How a transmitter takes up the records of its journal.
use Rattle.std.specs.Prelude.{◌≡◌, ℕ, List, [], ◌∷◌, Option, Some, None, Result, Ok, Err, if◌then◌else◌}
use Rattle.sig_fields.specs.declared.fault.DecodeFault.{DecodeFault}
use Rattle.sig_terms.specs.declared.fact.Fact.{Fact}
use Rattle.sig_history.specs.Owed.{Sum, empty_sum, sum_of}
use Rattle.sig_history.specs.Sound.{is_fitting}
use Rattle.sig_entry.specs.Facts.{decoded, spelling_of}
use Rattle.sig_journal.specs.Taking.{Taking}

-- the state after a fact, where it fits what the facts before it come to
abbrev pub after_fact : Sum → Fact → Option Sum
after_fact sum f = if is_fitting sum f then Some (sum_of sum (f ∷ [])) else None

-- the state after a record, where it is that of a fact that fits
abbrev pub after_record : Sum → Result Fact DecodeFault → Option Sum
after_record sum (Ok f) = after_fact sum f
after_record sum (Err fault) = None

-- a store without a record stands for no stream; each record is a fact, which is taken up in order
abbrev pub sending : Taking Sum
sending = record { start = empty_sum; step = λ sum payload. after_record sum (decoded payload) }

-- the record is the fact's, and the fact is read of it
pub record IsRecordOf (f : Fact) (payload : List ℕ) : Type 0 where
  pub bytes : payload ≡ spelling_of f
  pub reads : decoded payload ≡ Ok f
