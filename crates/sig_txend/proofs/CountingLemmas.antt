-- What is told beside a journal of so many records and bytes is told.
use Rattle.std.proofs.Common.{ℕ, List, Result, Ok, Err, IfOk}
use Rattle.sig_txend.specs.Counting.{IsCounted, IsCountedAt}

pub counted_so : {E : Type 0} (records bytes : ℕ) (r : Result (List ℕ) E)
    → IfOk r (IsCountedAt records bytes) → IfOk r IsCounted
counted_so records bytes (Ok text) told = (told.0, told.3)
counted_so records bytes (Err e) told = tt
