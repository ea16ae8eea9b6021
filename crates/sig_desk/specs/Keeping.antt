-- A desk beside all the turns that its node ever kept.
use Rattle.std.specs.Prelude.{◌≡◌, ◌≢◌, ◌⊎◌, ℕ, ◌-◌, ◌≤◌, ◌<◌, List, All, Contains, length, None, IfSome, slice_get, ◌++◌}
use mathlib.Core.List.{IsPrefix}
use Rattle.sig_logs.specs.Logs.{of_link}
use Rattle.sig_logs.specs.declared.difference.Differ.{Differ}
use Rattle.sig_logs.specs.declared.difference.Differ.TheVariants.{Turn}
use Rattle.sig_desk.specs.Views.{DeskView, IsClosed, IsOpen}

-- no link has the number 0; each log of the desk has the turns of its link, which has ended; of a link that is open the desk has all turns; and each turn is of
-- a link that the desk knows
pub record AreKept {G T : Type 0} (link_of : T → ℕ) (number_of : G → ℕ) (turns_of : G → List T) (desk : DeskView G T) (all : List T) : Type 0 where
  pub nobody : IsClosed desk.marks 0
  pub each : All (λ (log : G). turns_of log ≡ of_link link_of (number_of log) all) desk.logs
  pub ended : All (λ (log : G). IsClosed desk.marks (number_of log)) desk.logs
  pub waiting : (number : ℕ) → IsOpen desk.marks number → of_link link_of number desk.turns ≡ of_link link_of number all
  pub known : All (λ (t : T). (1 ≤ link_of t) × (link_of t < length desk.marks)) all

-- when a log of this number was compared, it and the node's turns of its link weren't the same at this place, counted from 1
pub record LogDiffered {G T : Type 0} (link_of : T → ℕ) (number_of : G → ℕ) (turns_of : G → List T) (logs : List G) (all : List T) (link place : ℕ) : Type 0 where
  pub log : G
  pub has : Contains logs log
  pub number : number_of log ≡ link
  pub earlier : List T
  pub before : IsPrefix earlier all
  pub counted : 1 ≤ place
  pub differs : slice_get (turns_of log) (place - 1) ≢ slice_get (of_link link_of link earlier) (place - 1)

-- the node kept a turn of a link that isn't open: that has ended, or never was
pub record IsStray {G T : Type 0} (link_of : T → ℕ) (desk : DeskView G T) (all : List T) (link place : ℕ) : Type 0 where
  pub turn : T
  pub has : Contains all turn
  pub of : link_of turn ≡ link
  pub closed : IsOpen desk.marks link → ⊥
  pub first : place ≡ 1

-- what differs does; at the place 0 the log of this link could not be compared
abbrev pub Differed : {G T : Type 0} → (T → ℕ) → (G → ℕ) → (G → List T) → DeskView G T → List T → Differ → Type 0
Differed link_of number_of turns_of desk all (Turn link place) =
    LogDiffered link_of number_of turns_of desk.logs all link place ⊎ IsStray link_of desk all link place ⊎ (place ≡ 0)

-- a desk that tells nothing has kept all; and what it tells differs. That it does is told without its log or turn, since a lock
-- hides what isn't the same whoever looks
pub record IsKept {G T : Type 0} (link_of : T → ℕ) (number_of : G → ℕ) (turns_of : G → List T) (desk : DeskView G T) (all : List T) : Type 0 where
  pub kept : desk.differs ≡ None → AreKept link_of number_of turns_of desk all
  pub told : IfSome desk.differs (λ d. ∥ Differed link_of number_of turns_of desk all d ∥₁)

-- a desk that kept all does so still, once its node kept these further turns
abbrev pub KeepsOn : {G T : Type 0} → (T → ℕ) → (G → ℕ) → (G → List T) → DeskView G T → DeskView G T → List T → Type 0
KeepsOn {G} {T} link_of number_of turns_of old new made =
    (all : List T) → IsKept link_of number_of turns_of old all → IsKept link_of number_of turns_of new (all ++ made)
