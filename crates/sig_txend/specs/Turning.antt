-- The turn of a call, and what it does to the side.
use Rattle.std.specs.Prelude.{◌≡◌, ℕ}
use Rattle.sig_links.specs.Told.{GivesTime}
use Rattle.sig_links.specs.Views.{SideView}
use Rattle.sig_round.specs.Turns.{IsTurnOf}
use Rattle.sig_terms.specs.declared.call.Call.{Call}
use Rattle.sig_txnode.specs.declared.turn.Turn.{Turn}

-- a side told this time, which is the next where it tells them, and all else of it is as before
abbrev pub TellsTime : ℕ → SideView → SideView → Type 0
TellsTime now old new = GivesTime old.times new.times now × (new ≡ record old { times = new.times })

-- it was asked for the time once
abbrev pub TellsOneTime : SideView → SideView → Type 0
TellsOneTime old new = (now : ℕ) × TellsTime now old new

-- a link of this number made this turn of a call, at the time that the side told
abbrev pub MakesTurn : ℕ → Call → Turn → SideView → SideView → Type 0
MakesTurn link call turn old new = (now : ℕ) × IsTurnOf (record { link = link; now = now }) call turn × TellsTime now old new
