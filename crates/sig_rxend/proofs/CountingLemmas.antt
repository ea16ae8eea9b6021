-- A text that tells what was counted, by what it tells.
use Rattle.std.proofs.Common.{◌≡◌, ℕ, List, Result, Ok, Err, IfOk}
use Rattle.sig_rxend.specs.Counting.{Counted, IsCounted, IsCountedAt, counted_text}

pub counted_by : {E : Type 0} (c : Counted) (r : Result (List ℕ) E)
    → IfOk r (λ text. text ≡ counted_text c) → IfOk r IsCounted
counted_by c (Ok text) is = (c, is)
counted_by c (Err e) is = tt

-- where it tells so many bytes
pub counted_with : {E : Type 0} (bytes : ℕ) (c : Counted) (r : Result (List ℕ) E) → c.bytes ≡ bytes
    → IfOk r (λ text. text ≡ counted_text c) → IfOk r (IsCountedAt bytes)
counted_with bytes c (Ok text) same is = (c, same, is)
counted_with bytes c (Err e) same is = tt

-- and whatever the bytes are
pub counted_so : {E : Type 0} (bytes : ℕ) (r : Result (List ℕ) E)
    → IfOk r (IsCountedAt bytes) → IfOk r IsCounted
counted_so bytes (Ok text) told = (told.0, told.2)
counted_so bytes (Err e) told = tt
