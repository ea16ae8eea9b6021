-- What is seen of a link that is served, of its turns and of its side, at one moment.
use Rattle.std.specs.Prelude.{ℕ, List, ◌++◌, Option, option_map}
use Rattle.sig_links.specs.Views.{SideView}
use Rattle.sig_serving.specs.Line.{Line}

-- of the turns: the side, what the taker tells, and those of this link
pub record Desk (Turn Told : Type 0) : Type 0 where
  pub side : SideView
  pub told : Told
  pub turns : List Turn

-- both, and the bytes that were taken of the link and not used
pub record Moment (Turn Told : Type 0) : Type 0 where
  pub kept : List ℕ
  pub line : Line
  pub desk : Desk Turn Told

abbrev pub desk_of : {Turn Told : Type 0} → SideView → Told → List Turn → Desk Turn Told
desk_of side told turns = record { side = side; told = told; turns = turns }

abbrev pub moment : {Turn Told : Type 0} → List ℕ → Line → Desk Turn Told → Moment Turn Told
moment kept line desk = record { kept = kept; line = line; desk = desk }

-- the bytes that no request has used yet
abbrev pub unread : {Turn Told : Type 0} → Moment Turn Told → Option (List ℕ)
unread moment = option_map (λ left. moment.kept ++ left) moment.line.left
