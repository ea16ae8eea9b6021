-- A desk, as contracts see it.
use Rattle.std.specs.Prelude.{◌≡◌, ◌<◌, length, ℕ, List, [], ◌∷◌, Bool, true, false, Option, Some, None, replicate, slice_get}
use Rattle.sig_logs.specs.declared.difference.Differ.{Differ}

-- the logs of the links that have ended, the turns of those that haven't, by the number of a link whether its turns may come, what
-- differs, if anything, and how many turns there is room for
pub record DeskView (G T : Type 0) : Type 0 where
  pub logs : List G
  pub turns : List T
  pub marks : List Bool
  pub differs : Option Differ
  pub room : ℕ

-- a link of this number may still have turns
abbrev pub IsOpen : List Bool → ℕ → Type 0
IsOpen marks number = slice_get marks number ≡ Some true

-- it is a link's number, and the link has ended
abbrev pub IsClosed : List Bool → ℕ → Type 0
IsClosed marks number = slice_get marks number ≡ Some false

-- a link after so many has ended
pub record HasClosed (links : ℕ) (marks : List Bool) : Type 0 where
  pub number : ℕ
  pub beyond : links < number
  pub known : number < length marks
  pub closed : IsOpen marks number → ⊥

-- before the first turn of the links 1 to this one: no link has the number 0
abbrev pub begun : {G T : Type 0} → ℕ → ℕ → DeskView G T
begun links room = record { logs = []; turns = []; marks = false ∷ replicate links true; differs = None; room = room }

-- once this differs: what was told first stays
abbrev pub first_of : Option Differ → Differ → Option Differ
first_of None differ = Some differ
first_of (Some before) differ = Some before

abbrev pub telling : {G T : Type 0} → DeskView G T → Differ → DeskView G T
telling desk differ = record desk { differs = first_of desk.differs differ }

-- the receipt of a log: the number of its link, whether the history has the log, and the history as it was then
pub record ReceiptView (G : Type 0) : Type 0 where
  pub number : ℕ
  pub is_shown : Bool
  pub front : List G
