-- What a transmitter does by itself beside its links: it lists its push streams, and tries those that may owe something.
use Rattle.std.specs.Prelude.{◌≡◌, ◌⊎◌, ◌++◌, ℕ, List, [], ◌∷◌, true, Option, Result, ⊤}
use Rattle.sig_courier.specs.declared.attempt.Attempt.{Attempt}
use Rattle.sig_journal.specs.declared.node_fault.NodeFault.{NodeFault}
use Rattle.sig_links.specs.Views.{SideView}
use Rattle.sig_round.specs.Turns.{Asker}
use Rattle.sig_terms.specs.declared.rules.Rules.{Rules}
use Rattle.sig_tick.specs.Ticking as tick
use Rattle.sig_tick.specs.Trying.{TriesDue}
use Rattle.sig_txnode.specs.declared.turn.Turn.{Turn}
use Rattle.sig_txend.specs.Following.{has_client}
use Rattle.sig_txend.specs.Turning.{TellsTime}

-- a stream of one of the clients of the rules was tried: it was asked what it offers, and that was brought
pub record TriesStream (rules : Rules) (by : Asker) (began after : SideView) (turns : List Turn) : Type 0 where
  pub stream : List ℕ
  pub client : has_client rules stream ≡ true
  pub attempt : Option Attempt
  pub end : Result ⊤ NodeFault
  pub tries : TriesDue rules by stream began after turns attempt end

-- one look at what is to be done: nothing was; or the clients were asked for their streams; or one stream was tried
abbrev pub DoesOne : Rules → Asker → SideView → SideView → List Turn → Type 0
DoesOne rules by began after turns =
    ((turns ≡ []) × (after ≡ began)) ⊎ ((after ≡ began) × (end : Result ⊤ NodeFault) × tick.Lists rules by turns end) ⊎ TriesStream rules by began after turns

-- what one look came to: its turns, and the side after it
pub record Step : Type 0 where
  pub turns : List Turn
  pub after : SideView

-- these looks, one after another, each at the time that the side told before it
abbrev pub AreDone : Rules → ℕ → List Step → SideView → SideView → List Turn → Type 0
AreDone rules number [] before after turns = (after ≡ before) × (turns ≡ [])
AreDone rules number (step ∷ steps) before after turns =
    (now : ℕ) × (began : SideView) × (rest : List Turn) × TellsTime now before began × DoesOne rules (record { link = number; now = now }) began step.after step.turns
    × (turns ≡ step.turns ++ rest) × AreDone rules number steps step.after after rest

-- ---- on the way

-- one look
pub record Looks (rules : Rules) (number : ℕ) (before after : SideView) (turns turns' : List Turn) : Type 0 where
  pub now : ℕ
  pub began : SideView
  pub more : List Turn
  pub time : TellsTime now before began
  pub does : DoesOne rules (record { link = number; now = now }) began after more
  pub log : turns' ≡ turns ++ more

-- some looks came to these turns
pub record Looked (rules : Rules) (number : ℕ) (before after : SideView) (turns : List Turn) : Type 0 where
  pub steps : List Step
  pub done : AreDone rules number steps before after turns

-- what one look did, by the turns that a log has more
pub record Does (rules : Rules) (by : Asker) (began after : SideView) (turns turns' : List Turn) : Type 0 where
  pub more : List Turn
  pub does : DoesOne rules by began after more
  pub log : turns' ≡ turns ++ more

-- the clients were asked for their streams, by the turns that a log has more
pub record Lists (rules : Rules) (by : Asker) (turns turns' : List Turn) : Type 0 where
  pub more : List Turn
  pub end : Result ⊤ NodeFault
  pub lists : tick.Lists rules by more end
  pub log : turns' ≡ turns ++ more

-- a stream was tried, by the turns that a log has more
pub record TriesOne (rules : Rules) (by : Asker) (began after : SideView) (turns turns' : List Turn) : Type 0 where
  pub more : List Turn
  pub tries : TriesStream rules by began after more
  pub log : turns' ≡ turns ++ more
