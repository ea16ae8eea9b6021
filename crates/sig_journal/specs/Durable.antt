-- What a write and a sync leave of a file, at each moment and where the disk stands still.
use Rattle.std.specs.Prelude.{◌≡◌, ◌⊎◌, ℕ, zero, suc, List, Bool, IsTrue, Option, Some, None, Result, IsOk, IsErr}
use Rattle.sig_outside.specs.Disk.{Stop, Torn, rests_written}

-- an image of before after a torn write
abbrev pub TornFrom : (List ℕ → Type 0) → ℕ → ℕ → List ℕ → Type 0
TornFrom images at n image = (from : List ℕ) × images from × Torn at n from image

-- a stop of so many calls before a write and a sync: with fewer than two it fails; with one the write was made; else both were, or the disk gets short
abbrev pub UsesTwo : {T E : Type 0} → ℕ → ℕ → List ℕ → ℕ → Stop → Option Stop → Bool → Result T E → Type 0
UsesTwo at n seen zero stop new short result = IsErr result × (new ≡ Some stop)
UsesTwo at n seen (suc zero) stop new short result =
    IsErr result × ((new ≡ Some (record { calls = 0; fill = stop.fill; image = rests_written at n stop.fill seen stop.image })) ⊎ IsTrue short)
UsesTwo at n seen (suc (suc calls)) stop new short result =
    (IsOk result × (new ≡ Some (record { calls = calls; fill = stop.fill; image = seen }))) ⊎ (IsErr result × IsTrue short)

-- the same of any disk
abbrev pub UsesBoth : {T E : Type 0} → ℕ → ℕ → List ℕ → Option Stop → Option Stop → Bool → Result T E → Type 0
UsesBoth at n seen None new short result = new ≡ None
UsesBoth at n seen (Some stop) new short result = UsesTwo at n seen stop.calls stop new short result
