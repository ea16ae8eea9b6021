-- The receipts of a watch's links, beside the desk at its end.
use Rattle.std.specs.Prelude.{◌≡◌, ◌⊎◌, ℕ, List, [], ◌∷◌, All, Contains}
use Rattle.sig_desk.specs.Settling.{IsOf, IsSettled, IsShown, IsUnshown, IsUnsettled}
use Rattle.sig_desk.specs.Views.{DeskView, ReceiptView}
use Rattle.sig_logs.specs.declared.difference.Differ.{Differ}
use Rattle.sig_logs.specs.declared.difference.Differ.TheVariants.{Turn}
use Rattle.sig_watch.specs.Sights.{Sight}

-- a link was served and came to some log, whose receipt this is
abbrev pub ServedBy : {G : Type 0} → (ℕ → G → Sight → Sight → Type 0) → (G → ℕ) → ℕ → ReceiptView G → Sight → Sight → Type 0
ServedBy {G} serves number_of number receipt came left = (log : G) × serves number log came left × IsOf number_of log receipt

-- each receipt is of the log at its place
abbrev pub AreOf : {G : Type 0} → (G → ℕ) → List G → List (ReceiptView G) → Type 0
AreOf number_of [] [] = Unit {0}
AreOf number_of [] (receipt ∷ receipts) = ⊥
AreOf number_of (log ∷ logs) [] = ⊥
AreOf number_of (log ∷ logs) (receipt ∷ receipts) = IsOf number_of log receipt × AreOf number_of logs receipts

-- the desk's history has the logs of all of these, and nothing differs in it
pub record AreSettled {G T : Type 0} (links : ℕ) (desk : DeskView G T) (receipts : List (ReceiptView G)) : Type 0 where
  pub shown : All (λ (r : ReceiptView G). IsShown desk r) receipts
  pub settled : IsSettled links desk

-- the receipt of this link is one of these, and shows no log of the desk's history; it is told at the place 0
pub record IsMissing {G T : Type 0} (desk : DeskView G T) (receipts : List (ReceiptView G)) (link place : ℕ) : Type 0 where
  pub receipt : ReceiptView G
  pub has : Contains receipts receipt
  pub number : receipt.number ≡ link
  pub unshown : IsUnshown desk receipt
  pub nowhere : place ≡ 0

-- what differs: a receipt that shows no log of the desk's history; or what the desk tells at the end of so many links
abbrev pub IsUnlike : {G T : Type 0} → (T → ℕ) → ℕ → DeskView G T → List (ReceiptView G) → Differ → Type 0
IsUnlike {G} {T} link_of links desk receipts (Turn link place) =
    IsMissing desk receipts link place ⊎ (All (λ (r : ReceiptView G). IsShown desk r) receipts × IsUnsettled link_of links desk (Turn link place))
