-- Numbers as limbs of 64 bits, the least first.
use Rattle.std.specs.Prelude.{ℕ, ◌+◌, ◌*◌, ◌^◌, List, [], ◌∷◌}

-- the number that digits below a base stand for, the least first
abbrev pub value_in : ℕ → List ℕ → ℕ
value_in base [] = 0
value_in base (digit ∷ digits) = digit + base * value_in base digits

-- the number that limbs stand for
abbrev pub value : List ℕ → ℕ
value limbs = value_in (2 ^ 64) limbs

-- the weight of the limb that stands above so many others
abbrev pub weight : ℕ → ℕ
weight limbs = (2 ^ 64) ^ limbs
