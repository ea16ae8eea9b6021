-- What a run of calls, the last of which is a sync, does to a disk that is to stand still.
use Rattle.std.specs.Prelude.{◌≡◌, ◌⊎◌, ◌↔◌, ℕ, suc, ◌-◌, ◌<◌, ◌≤◌, List, Bool, ◌||◌, ◌&&◌, nat_eq, nat_le, IsTrue, IsSomeAnd, MatchBool, Option, Some, None, Result, IsOk, IsErr}
use Rattle.sig_outside.specs.Disk.{Stop}
use Rattle.sig_journal.specs.declared.layout.TheConstants.{GATE_OPEN}

-- all calls of the run are left: it succeeds, and the disk rests with what reads give
pub record RunsThrough {T E : Type 0} (calls : ℕ) (seen : List ℕ) (stop : Stop) (new : Option Stop) (result : Result T E) : Type 0 where
  pub enough : calls ≤ stop.calls
  pub ok : IsOk result
  pub left : new ≡ Some (record { calls = stop.calls - calls; fill = stop.fill; image = seen })

-- fewer are left: it fails, and the disk rests with an image of which this holds, by the calls that were left and the fill
pub record StandsStill {T E : Type 0} (calls : ℕ) (Rests : ℕ → ℕ → List ℕ → Type 0) (stop : Stop) (new : Option Stop) (result : Result T E) : Type 0 where
  pub few : stop.calls < calls
  pub err : IsErr result
  pub resting : IsSomeAnd new (λ rest. Rests stop.calls stop.fill rest.image)

-- a disk that tells a stop does the one or the other, unless it gets short; any other goes on telling none
abbrev pub UsesRun : {T E : Type 0} → ℕ → (ℕ → ℕ → List ℕ → Type 0) → List ℕ → Option Stop → Option Stop → Bool → Result T E → Type 0
UsesRun calls Rests seen None new short result = new ≡ None
UsesRun calls Rests seen (Some stop) new short result =
    RunsThrough calls seen stop new result ⊎ (StandsStill calls Rests stop new result ⊎ (IsErr result × IsTrue short))

-- of a run of so many calls, whose last write opens a gate, these were made that open it: all of them, or all but the sync where the fill opens it
abbrev pub opens_it : ℕ → ℕ → ℕ → Bool
opens_it needed calls fill = nat_le needed calls || (nat_eq (suc calls) needed && nat_eq fill GATE_OPEN)

-- a disk that tells a stop, unless it gets short: the run succeeds exactly where all its calls are left, and the image that the disk then rests with is one of these
abbrev pub RestsAfter : {T E : Type 0} → ℕ → (List ℕ → Type 0) → (List ℕ → Type 0) → Option Stop → Option Stop → Bool → Result T E → Type 0
RestsAfter needed IsBefore IsAfter None new short result = new ≡ None
RestsAfter needed IsBefore IsAfter (Some stop) new short result =
    IsTrue short ⊎ ((IsOk result ↔ (needed ≤ stop.calls)) × IsSomeAnd new (λ rest. MatchBool (opens_it needed stop.calls stop.fill) (IsAfter rest.image) (IsBefore rest.image)))
