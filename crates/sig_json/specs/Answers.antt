-- What a call answers that may run out of memory.
use Rattle.std.specs.Prelude.{◌≡◌, ◌⊎◌, Result, Ok, Err}

-- it is what was to be answered, unless memory ran out
abbrev pub Answers : {T E : Type 0} → E → Result T E → Result T E → Type 0
Answers memory (Ok x) told = told ≡ Ok x
Answers memory (Err e) told = (e ≡ memory) ⊎ (told ≡ Err e)

-- a result with its value seen by a function
abbrev pub result_map : {T U E : Type 0} → (T → U) → Result T E → Result U E
result_map f (Ok x) = Ok (f x)
result_map f (Err e) = Err e
