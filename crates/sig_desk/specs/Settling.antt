-- A desk at the end of its watch.
use Rattle.std.specs.Prelude.{◌≡◌, ◌⊎◌, ℕ, ◌<◌, [], true, false, Contains, length, Some, None}
use mathlib.Core.List.{IsPrefix}
use Rattle.sig_book.specs.Histories.{IsLonger}
use Rattle.sig_logs.specs.declared.difference.Differ.{Differ}
use Rattle.sig_logs.specs.declared.difference.Differ.TheVariants.{Turn}
use Rattle.sig_desk.specs.Views.{DeskView, HasClosed, IsOpen, ReceiptView}

-- nothing differs, no turn is left, and no link after so many has ended
pub record IsSettled {G T : Type 0} (links : ℕ) (desk : DeskView G T) : Type 0 where
  pub same : desk.differs ≡ None
  pub none : desk.turns ≡ []
  pub few : (number : ℕ) → links < number → number < length desk.marks → IsOpen desk.marks number

-- a turn is left of this link
pub record IsLeft {G T : Type 0} (link_of : T → ℕ) (desk : DeskView G T) (link place : ℕ) : Type 0 where
  pub turn : T
  pub has : Contains desk.turns turn
  pub of : link_of turn ≡ link
  pub first : place ≡ 1

-- why it isn't: what the desk tells; or a turn of a link that hasn't ended; or, at the place 0, that one after so many has
abbrev pub IsUnsettled : {G T : Type 0} → (T → ℕ) → ℕ → DeskView G T → Differ → Type 0
IsUnsettled link_of links desk (Turn link place) = (desk.differs ≡ Some (Turn link place)) ⊎ IsLeft link_of desk link place ⊎ ((place ≡ 0) × HasClosed links desk.marks)

-- the history of the log's receipt has the log
abbrev pub IsOf : {G : Type 0} → (G → ℕ) → G → ReceiptView G → Type 0
IsOf number_of log receipt = (number_of log ≡ receipt.number) × (receipt.is_shown ≡ true → Contains receipt.front log)

-- the desk's history goes on from that of the receipt
abbrev pub IsShown : {G T : Type 0} → DeskView G T → ReceiptView G → Type 0
IsShown desk receipt = (receipt.is_shown ≡ true) × IsPrefix receipt.front desk.logs

-- the receipt shows no log, or is of a history that goes on from the desk's
abbrev pub IsUnshown : {G T : Type 0} → DeskView G T → ReceiptView G → Type 0
IsUnshown desk receipt = (receipt.is_shown ≡ false) ⊎ IsLonger desk.logs receipt.front
