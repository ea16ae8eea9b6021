-- What holds of every modulus.
use Rattle.std.specs.Prelude.{◌↔◌, ℕ, IsTrue, List}
use Rattle.sig_number.specs.Modulus.{IsModulus, is_modulus}

-- the test tells the bytes that spell a modulus
abbrev pub DecidesModuli : Type 0
DecidesModuli = (bytes : List ℕ) → IsTrue (is_modulus bytes) ↔ IsModulus bytes
