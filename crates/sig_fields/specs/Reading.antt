-- How bytes are read part by part, from the first on. A reader gives what it read and the bytes after it, or the bytes from the first
-- part on that is cut or breaks its rule.
use Rattle.std.specs.Prelude.{◌≡◌, ℕ, List, Option, Some, None, Result, Ok, Err, ⊤}
use Rattle.sig_fields.specs.declared.fault.PartFault.{PartFault}
use Rattle.sig_fields.specs.declared.fault.PartFault.TheVariants as fault

-- nothing is read for a value that takes no bytes
abbrev pub given : {T : Type 0} → T → List ℕ → Result (T × List ℕ) (List ℕ)
given x bytes = Ok (x, bytes)

abbrev pub next_after : {A B : Type 0} → Result (A × List ℕ) (List ℕ) → (A → List ℕ → Result (B × List ℕ) (List ℕ)) → Result (B × List ℕ) (List ℕ)
next_after (Ok (x, rest)) next = next x rest
next_after (Err from) next = Err from

-- one part, and then what stands after it
infixl 10 ◌>>=◌
abbrev pub ◌>>=◌ : {A B : Type 0} → (List ℕ → Result (A × List ℕ) (List ℕ)) → (A → List ℕ → Result (B × List ℕ) (List ℕ)) → List ℕ → Result (B × List ℕ) (List ℕ)
(read >>= next) bytes = next_after (read bytes) next

abbrev pub where_begun : {T : Type 0} → List ℕ → List ℕ → Option T → Result (T × List ℕ) (List ℕ)
where_begun bytes rest (Some x) = Ok (x, rest)
where_begun bytes rest None = Err bytes

abbrev pub ruled_after : {A B : Type 0} → (A → Option B) → List ℕ → Result (A × List ℕ) (List ℕ) → Result (B × List ℕ) (List ℕ)
ruled_after rule bytes (Ok (x, rest)) = where_begun bytes rest (rule x)
ruled_after rule bytes (Err from) = Err from

-- one part with a rule, which says what it is read as; a part that breaks its rule is where it begins
abbrev pub ruled : {A B : Type 0} → (A → Option B) → (List ℕ → Result (A × List ℕ) (List ℕ)) → List ℕ → Result (B × List ℕ) (List ℕ)
ruled rule read bytes = ruled_after rule bytes (read bytes)

-- what was to be read was read, and these bytes are left; or they begin with the part that can't be read
abbrev pub Takes : {T : Type 0} → Result (T × List ℕ) (List ℕ) → Result T PartFault → List ℕ → Type 0
Takes told (Ok x) rest = told ≡ Ok (x, rest)
Takes told (Err fault.Bad) rest = told ≡ Err rest
Takes told (Err fault.Memory) rest = ⊤
