-- What the calls of a disk do to its file, and what a crash may leave of it between two syncs.
use Rattle.std.specs.Prelude.{◌≡◌, ◌⊎◌, ℕ, zero, suc, ◌+◌, ◌-◌, ◌≤◌, min, max, List, ◌++◌, length, take, drop, replicate, Bool, true, false, IsTrue, Option, Some, None, Result, IsOk, IsErr, OnOk}

-- the bytes of a file after a write at an offset; a gap before it has zeros
abbrev pub with_bytes : ℕ → List ℕ → List ℕ → List ℕ
with_bytes at bytes old = take at old ++ replicate (at - length old) 0 ++ bytes ++ drop (at + length bytes) old

-- a read at an offset gave so many bytes into this buffer: as many as fit, or stand there
pub record ReadsAt (seen : List ℕ) (at count : ℕ) (buf : List ℕ) : Type 0 where
  pub all : count ≡ min (length buf) (length (drop at seen))
  pub bytes : take count buf ≡ take count (drop at seen)

-- after a write of n bytes that a crash cuts short: any bytes in the range and past the old end, the same elsewhere
pub record Torn (at n : ℕ) (old new : List ℕ) : Type 0 where
  pub before : take (min at (length old)) new ≡ take at old
  pub after : drop (at + n) new ≡ drop (at + n) old
  pub no_shorter : length old ≤ length new
  pub no_longer : length new ≤ max (length old) (at + n)

-- after a cut: some size between the new one and the old one
pub record Cut (size : ℕ) (old new : List ℕ) : Type 0 where
  pub no_shorter : min size (length old) ≤ length new
  pub same : take (length new) old ≡ new

-- each image of a crash now is an image of before after this step
abbrev pub Follows : (List ℕ → List ℕ → Type 0) → (List ℕ → Type 0) → (List ℕ → Type 0) → Type 0
Follows step before now = (image : List ℕ) → now image → (from : List ℕ) × before from × step from image

-- each image of a crash now was one before
abbrev pub Unchanged : (List ℕ → Type 0) → (List ℕ → Type 0) → Type 0
Unchanged before now = (image : List ℕ) → now image → before image

-- a crash leaves these bytes and nothing else
abbrev pub Only : List ℕ → (List ℕ → Type 0) → Type 0
Only bytes images = (image : List ℕ) → images image → image ≡ bytes

-- time goes on: a crash since t might have left what it might have left before, or what it may leave now
pub record Elapses (before now : ℕ) (past since : ℕ → List ℕ → Type 0) (may_leave : List ℕ → Type 0) : Type 0 where
  pub later : before ≤ now
  pub nothing_else : (t : ℕ) (image : List ℕ) → t ≤ before → since t image → past t image ⊎ may_leave image
  pub keeps : (t : ℕ) (image : List ℕ) → t ≤ before → past t image → since t image

-- a crash at any moment since old leaves a file that has P
pub record LeavesOnly {D : Type 0} (moment : D → ℕ) (left_since : D → ℕ → List ℕ → Type 0) (old new : D) (P : List ℕ → Type 0) : Type 0 where
  pub later : moment old ≤ moment new
  pub each : (image : List ℕ) → left_since new (moment old) image → P image
  -- for a run that began earlier
  pub before : (t : ℕ) (image : List ℕ) → t ≤ moment old → left_since new t image → left_since old t image ⊎ P image

-- where a disk is to stand still: how many calls it still makes, and what it rests with, in which each byte written since the last sync is the fill
pub record Stop : Type 0 where
  pub calls : ℕ
  pub fill : ℕ
  pub image : List ℕ

-- how the resting image goes on: by the fill, the bytes that are read, and the image before
abbrev pub rests_same : ℕ → List ℕ → List ℕ → List ℕ
rests_same fill seen image = image

abbrev pub rests_written : ℕ → ℕ → ℕ → List ℕ → List ℕ → List ℕ
rests_written at n fill seen image = with_bytes at (replicate n fill) image

abbrev pub rests_cut : ℕ → ℕ → List ℕ → List ℕ → List ℕ
rests_cut size fill seen image = take size image

abbrev pub rests_synced : ℕ → List ℕ → List ℕ → List ℕ
rests_synced fill seen image = seen

-- a call of a disk that is to stand still after so many calls: with none left it fails, else it uses one, or the disk gets short
abbrev pub UsesOne : {T E : Type 0} → (ℕ → List ℕ → List ℕ → List ℕ) → List ℕ → ℕ → Stop → Option Stop → Bool → Result T E → Type 0
UsesOne rests seen zero stop new short result = IsErr result × (new ≡ Some stop)
UsesOne rests seen (suc n) stop new short result =
    (IsOk result × (new ≡ Some (record { calls = n; fill = stop.fill; image = rests stop.fill seen stop.image }))) ⊎ (IsErr result × IsTrue short)

-- the same of any disk: one that tells no stop goes on telling none
abbrev pub Uses : {T E : Type 0} → (ℕ → List ℕ → List ℕ → List ℕ) → List ℕ → Option Stop → Option Stop → Bool → Result T E → Type 0
Uses rests seen None new short result = new ≡ None
Uses rests seen (Some stop) new short result = UsesOne rests seen stop.calls stop new short result

-- what a disk tells of its stop from then on: a disk that stands still where it is asked to tells so, any other tells none
abbrev pub StopsAfter : Bool → ℕ → ℕ → Option Stop → Type 0
StopsAfter true calls fill None = ⊥
StopsAfter true calls fill (Some stop) = (stop.calls ≡ calls) × (stop.fill ≡ fill)
StopsAfter false calls fill new = new ≡ None

-- a disk that is short of memory stays so, and gets so only in a call that fails
pub record GetsShort {T E : Type 0} (before now : Bool) (result : Result T E) : Type 0 where
  pub stays : IsTrue before → IsTrue now
  pub only_failed : OnOk result (now ≡ before)
