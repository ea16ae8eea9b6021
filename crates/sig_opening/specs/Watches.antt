-- The watches of a run, one after the other, whatever a watch is.
use Rattle.std.specs.Prelude.{◌≡◌, ◌⊎◌, ℕ, ◌<◌, ◌≤◌, List, [], ◌∷◌, ◌++◌, All, length, Bool, true, Option, Some, None}
use Rattle.sig_logs.specs.declared.difference.Differ.{Differ}
use Rattle.sig_links.specs.Views.{DoorView}
use Rattle.sig_opening.specs.Ends.{IsEndOfWatches}
use Rattle.sig_opening.specs.declared.ending.ServeEnd.{ServeEnd}
use Rattle.sig_opening.specs.declared.ending.ServeEnd.TheVariants.{Done, Disagree, Memory}

-- what a run has between two watches: the state, whether the two files of the store are told, and the door
pub record Standing (S : Type 0) : Type 0 where
  pub state : S
  pub files : Bool × Bool
  pub door : DoorView

abbrev pub standing : {S : Type 0} → S → Bool × Bool → DoorView → Standing S
standing state files door = record { state = state; files = files; door = door }

-- this holds of each watch, which begins where the one before it ended
abbrev pub AreInRow : {W M : Type 0} → (W → M → M → Type 0) → List W → M → M → Type 0
AreInRow is [] old new = new ≡ old
AreInRow {M = M} is (watch ∷ watches) old new = (between : M) × is watch old between × AreInRow is watches between new

-- ---- how they end

-- what a watch tells of its end: whether the door is shut, and what differs, if anything
pub record Tells : Type 0 where
  pub shut : Bool
  pub differ : Option Differ

-- in none of them anything differs
abbrev pub Agree : {W : Type 0} → (W → Tells) → List W → Type 0
Agree {W} tells watches = All (λ (watch : W). (tells watch).differ ≡ None) watches

-- in the last of them this differs, and in none before it anything
pub record EndDiffers {W : Type 0} (tells : W → Tells) (differ : Differ) (watches : List W) : Type 0 where
  pub before : List W
  pub last : W
  pub parts : watches ≡ before ++ last ∷ []
  pub agree : Agree tells before
  pub differs : (tells last).differ ≡ Some differ

-- where the run ends with what differs, it is in the last watch; else nothing does in any
abbrev pub AgreesBy : {W : Type 0} → (W → Tells) → ServeEnd → List W → Type 0
AgreesBy tells (Disagree differ) watches = EndDiffers tells differ watches
AgreesBy tells _ watches = Agree tells watches

-- the last of them reports that the door is shut
pub record EndShut {W : Type 0} (tells : W → Tells) (watches : List W) : Type 0 where
  pub before : List W
  pub last : W
  pub parts : watches ≡ before ++ last ∷ []
  pub shut : (tells last).shut ≡ true

-- there are no more than were asked for; the run is done where there are as many, or the last one reports a shut door; and
-- where memory ran out, there are fewer
pub record EndSo {W : Type 0} (tells : W → Tells) (end : ServeEnd) (asked : ℕ) (watches : List W) : Type 0 where
  pub kind : IsEndOfWatches end
  pub within : length watches ≤ asked
  pub done : end ≡ Done → (length watches ≡ asked) ⊎ EndShut tells watches
  pub memory : end ≡ Memory → length watches < asked
  pub agrees : AgreesBy tells end watches

-- ---- on the way

-- one more watch, after which the run goes on
pub record GoesOn {W M : Type 0} (is : W → M → M → Type 0) (tells : W → Tells) (old new : M) : Type 0 where
  pub watch : W
  pub each : is watch old new
  pub agrees : (tells watch).differ ≡ None

-- the last watch, or out of memory before it
pub record StopsAt {W M : Type 0} (is : W → M → M → Type 0) (tells : W → Tells) (end : ServeEnd) (old new : M) : Type 0 where
  pub watches : List W
  pub each : AreInRow is watches old new
  pub kind : IsEndOfWatches end
  pub within : length watches ≤ 1
  pub done : end ≡ Done → EndShut tells watches
  pub memory : end ≡ Memory → watches ≡ []
  pub agrees : AgreesBy tells end watches

-- all watches
pub record RunsTo {W M : Type 0} (is : W → M → M → Type 0) (tells : W → Tells) (end : ServeEnd) (asked : ℕ) (old new : M) : Type 0 where
  pub watches : List W
  pub each : AreInRow is watches old new
  pub ends : EndSo tells end asked watches
