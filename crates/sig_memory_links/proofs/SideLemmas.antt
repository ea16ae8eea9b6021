-- A list of which the first so many came back, as one is taken off after them and as one is put in there.
use Rattle.std.proofs.Common.{◌≡◌, ℕ, zero, suc, ◌+◌, ◌<◌, ◌≤◌, List, [], ◌∷◌, ◌++◌, length, take, drop, get_or, refl, ap, sym, add-one, arith}
use Rattle.std.specs.List.{insert, remove}

pub back_stays : {T : Type 0} → (xs : List T) (at : ℕ) → at < length xs → take at (remove xs at) ≡ take at xs
back_stays [] at lt = absurd (omega arith)
back_stays (x ∷ xs) zero lt = refl
back_stays (x ∷ xs) (suc at) lt = ap (λ (l : List _). x ∷ l) (back_stays xs at (omega arith))

pub ahead_goes_on : {T : Type 0} → (xs : List T) (at : ℕ) (x : T) → at < length xs → x ≡ get_or xs at x → drop at xs ≡ x ∷ drop at (remove xs at)
ahead_goes_on [] at x lt is = absurd (omega arith)
ahead_goes_on (y ∷ xs) zero x lt is = ap (λ z. z ∷ xs) (sym is)
ahead_goes_on (y ∷ xs) (suc at) x lt is = ahead_goes_on xs at x (omega arith) is

grows : {T : Type 0} → (xs : List T) (at : ℕ) (x : T) → at ≤ length xs → take (suc at) (insert xs at x) ≡ take at xs ++ x ∷ []
grows xs zero x le = refl
grows [] (suc at) x le = absurd (omega arith)
grows (y ∷ xs) (suc at) x le = ap (λ (l : List _). y ∷ l) (grows xs at x (omega arith))

stays : {T : Type 0} → (xs : List T) (at : ℕ) (x : T) → at ≤ length xs → drop (suc at) (insert xs at x) ≡ drop at xs
stays xs zero x le = refl
stays [] (suc at) x le = absurd (omega arith)
stays (y ∷ xs) (suc at) x le = stays xs at x (omega arith)

pub back_grows : {T : Type 0} → (xs : List T) (at : ℕ) (x : T) → at ≤ length xs → take (at + 1) (insert xs at x) ≡ take at xs ++ x ∷ []
back_grows xs at x le = rw add-one (grows xs at x le)

pub ahead_stays : {T : Type 0} → (xs : List T) (at : ℕ) (x : T) → at ≤ length xs → drop (at + 1) (insert xs at x) ≡ drop at xs
ahead_stays xs at x le = rw add-one (stays xs at x le)
