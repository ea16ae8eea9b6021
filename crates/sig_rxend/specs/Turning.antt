-- The turn of a call, and the turns that a taker tells.
use Rattle.std.specs.Prelude.{◌≡◌, ℕ, Bool, false, List, [], ◌++◌, Option, Some, None, IfOk, IsErrOf}
use Rattle.sig_journal.specs.declared.node_fault.NodeFault.TheVariants.{Memory}
use Rattle.sig_links.specs.Views.{SideView}
use Rattle.sig_rxnode.specs.Answers.{FitsPage}
use Rattle.sig_rxnode.specs.Told.{RxTold}
use Rattle.sig_rxnode.specs.declared.call.RxCall.{RxCall}
use Rattle.sig_rxnode.specs.declared.rules.RxRules.{RxRules}
use Rattle.sig_rxnode.specs.declared.turn.RxTurn.{RxTurn}

-- it is the turn of this call, asked by that link; it wasn't refused memory, and a page that it answers isn't too long
pub record IsTurnOf (link : ℕ) (call : RxCall) (turn : RxTurn) : Type 0 where
  pub asked : turn ≡ record { link = link; call = call; result = turn.result }
  pub kept : IsErrOf turn.result Memory → ⊥
  pub page : IfOk turn.result FitsPage

-- a link of this number made this turn of a call, and asked the side nothing
abbrev pub MakesTurn : ℕ → RxCall → RxTurn → SideView → SideView → Type 0
MakesTurn link call turn old new = IsTurnOf link call turn × (new ≡ old)

-- the side was asked nothing
abbrev pub AsksNothing : SideView → SideView → Type 0
AsksNothing old new = new ≡ old

-- nothing follows a turn
abbrev pub EndsThere : RxRules → RxTurn → List RxTurn → Bool → SideView → SideView → Type 0
EndsThere rules turn more starved old new = (more ≡ []) × (starved ≡ false) × (new ≡ old)

-- where a taker tells its turns, they are longer by these; one that tells nothing goes on so
abbrev pub Grew : Option RxTold → Option RxTold → List RxTurn → Type 0
Grew None new more = new ≡ None
Grew (Some old) new more = new ≡ Some (record old { turns = old.turns ++ more })
