-- What is seen of a link and of the side beside it, at one moment; and of an errand, which has a side alone.
use Rattle.std.specs.Prelude.{Bool, true, false, List, ◌∷◌, None}
use Rattle.sig_serving.specs.Line.{Line}
use Rattle.sig_links.specs.Views.{SideView}
use Rattle.sig_watch.specs.declared.guest.Guest.{Guest}
use Rattle.sig_watch.specs.declared.guest.Guest.TheVariants.{Link, Errand}

pub record Sight : Type 0 where
  pub line : Line
  pub side : SideView
  pub is_errand : Bool

abbrev pub sight : Line → SideView → Sight
sight line side = record { line = line; side = side; is_errand = false }

-- the line of no link: nothing of it is told
abbrev pub no_line : Line
no_line = record { left = None; written = None; reads = 0; writes = 0 }

abbrev pub errand : SideView → Sight
errand side = record { line = no_line; side = side; is_errand = true }

abbrev pub guest : {L S : Type 0} → (L → Line) → (S → SideView) → Guest L S → Sight
guest line view (Link link side) = sight (line link) (view side)
guest line view (Errand side) = errand (view side)

-- what holds of an errand, and what of a link
abbrev pub IfErrand : Bool → Type 0 → Type 0 → Type 0
IfErrand true holds of_link = holds
IfErrand false holds of_link = of_link

-- these, and before them this one if it is of a link
abbrev pub with_link : Bool → Sight → List Sight → List Sight
with_link true one rest = rest
with_link false one rest = one ∷ rest
