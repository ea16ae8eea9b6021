-- Items that are read one by one.
use Rattle.std.proofs.Common.{◌≡◌, ap, sym, ◌∙◌, refl, List, [], ◌∷◌, ◌++◌, ℕ, suc, append_assoc, append-nil}
use Rattle.std.specs.Prelude.{Result, Ok, Err}
use Rattle.sig_fields.specs.Kinds.{items}
use Rattle.sig_fields.specs.Reading.{Takes, given, next_after}
use Rattle.sig_fields.specs.declared.fault.PartFault.{PartFault}
use Rattle.sig_fields.specs.declared.fault.PartFault.TheVariants as fault

-- these items, and then what further ones are read
abbrev pub joined : {T : Type 0} → List T → Result (List T × List ℕ) (List ℕ) → Result (List T × List ℕ) (List ℕ)
joined xs (Ok (ys, rest)) = Ok (xs ++ ys, rest)
joined xs (Err from) = Err from

joined_nil : {T : Type 0} (more : Result (List T × List ℕ) (List ℕ)) → more ≡ joined [] more
joined_nil (Ok (ys, rest)) = refl
joined_nil (Err from) = refl

pub items_begin : {T : Type 0} (read : List ℕ → Result (T × List ℕ) (List ℕ)) (n left : ℕ) (bytes : List ℕ) → left ≡ n → items read n bytes ≡ joined [] (items read left bytes)
items_begin read n left bytes is = joined_nil (items read n bytes) ∙ ap (λ m. joined [] (items read m bytes)) (sym is)

one_more : {T : Type 0} (xs : List T) (x : T) (more : Result (List T × List ℕ) (List ℕ)) → joined xs (next_after more (λ ys. given (x ∷ ys))) ≡ joined (xs ++ x ∷ []) more
one_more xs x (Ok (ys, rest)) = ap (λ zs. Ok (zs, rest)) (sym (append_assoc xs (x ∷ []) ys))
one_more xs x (Err from) = refl

-- one more item is read
pub items_step : {T : Type 0} (read : List ℕ → Result (T × List ℕ) (List ℕ)) (xs : List T) (left n : ℕ) (bytes : List ℕ) (x : T) (rest : List ℕ)
    → left ≡ suc n → read bytes ≡ Ok (x, rest) → joined xs (items read left bytes) ≡ joined (xs ++ x ∷ []) (items read n rest)
items_step read xs left n bytes x rest is one =
    ap (λ m. joined xs (items read m bytes)) is
    ∙ ap (λ r. joined xs (next_after r (λ y bs. next_after (items read n bs) (λ ys. given (y ∷ ys))))) one
    ∙ one_more xs x (items read n rest)

-- an item can't be read
pub items_stop : {T : Type 0} (read : List ℕ → Result (T × List ℕ) (List ℕ)) (xs : List T) (left n : ℕ) (bytes from : List ℕ)
    → left ≡ suc n → read bytes ≡ Err from → joined xs (items read left bytes) ≡ Err from
items_stop read xs left n bytes from is bad =
    ap (λ m. joined xs (items read m bytes)) is ∙ ap (λ r. joined xs (next_after r (λ y bs. next_after (items read n bs) (λ ys. given (y ∷ ys))))) bad

pub refused : {T : Type 0} (read : List ℕ → Result (T × List ℕ) (List ℕ)) (xs : List T) (left n : ℕ) (bytes : List ℕ) (whole : Result (List T × List ℕ) (List ℕ)) (e : PartFault) (rest : List ℕ)
    → left ≡ suc n → whole ≡ joined xs (items read left bytes) → Takes (read bytes) (Err e) rest → Takes {T = List T} whole (Err e) rest
refused read xs left n bytes whole fault.Bad rest is so_far bad = so_far ∙ items_stop read xs left n bytes rest is bad
refused read xs left n bytes whole fault.Memory rest is so_far bad = tt

pub items_end : {T : Type 0} (read : List ℕ → Result (T × List ℕ) (List ℕ)) (xs : List T) (left : ℕ) (bytes : List ℕ) → left ≡ 0 → joined xs (items read left bytes) ≡ Ok (xs, bytes)
items_end read xs left bytes is = ap (λ m. joined xs (items read m bytes)) is ∙ ap (λ ys. Ok (ys, bytes)) (append-nil xs)
