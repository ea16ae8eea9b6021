-- Laws over the push rounds that follow a turn.
use Rattle.std.specs.Prelude.{◌≡◌, ℕ, List, [], Bool, true, All}
use Rattle.sig_links.specs.Views.{SideView}
use Rattle.sig_terms.specs.declared.call.Call.{Call}
use Rattle.sig_terms.specs.declared.call.Call.TheVariants.{Hand}
use Rattle.sig_terms.specs.declared.rules.Rules.{Rules}
use Rattle.sig_txnode.specs.declared.turn.Turn.{Turn}
use Rattle.sig_txend.specs.Following.{PushesAfter, has_client}

-- the streams over which a call hands tokens out to a round
abbrev pub streams_handed : Call → List (List ℕ)
streams_handed (Hand streams) = streams
streams_handed _ = []

-- a turn hands tokens of streams alone whose clients the rules have
abbrev pub HandsToClients : Rules → Turn → Type 0
HandsToClients rules turn = All (λ (stream : List ℕ). has_client rules stream ≡ true) (streams_handed turn.call)

-- so does each turn of the push rounds that follow a turn, whatever was answered, and whichever streams are passed over
abbrev pub RoundsAreOfClients : Type 0
RoundsAreOfClients = (rules : Rules) (turn : Turn) (more : List Turn) (starved : Bool) (before after : SideView)
    → PushesAfter (λ (stream : List ℕ). Unit {0}) rules turn more starved before after → All (HandsToClients rules) more
