-- The two files of a store have names of their own.
use Rattle.std.proofs.Common.{◌≡◌, ap, ℕ, List, [], ◌∷◌, drop, arith}
use Rattle.std.specs.Prelude.{slice_index}
use Rattle.sig_init.specs.Files.{file_a, file_b}

pub names_differ : (store : List ℕ) → file_a store ≡ file_b store → ⊥
names_differ [] h = omega (arith, ap (λ t. slice_index t 1) h)
names_differ (x ∷ store) h = names_differ store (ap (drop 1) h)
