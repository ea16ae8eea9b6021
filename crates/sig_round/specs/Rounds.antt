-- Rounds of pushes: their turns, what they do to the side by which they dial, and why they end (RFC 8935, section 2).
use Rattle.std.specs.Prelude.{◌≡◌, ◌⊎◌, ℕ, Bool, true, false, List, [], ◌∷◌, ◌++◌, Option, Result, Ok, Err, ⊤}
use Rattle.sig_push.specs.declared.fault.PushFault.{PushFault}
use Rattle.sig_push.specs.declared.fault.PushFault.TheVariants.{Memory}
use Rattle.sig_journal.specs.declared.node_fault.NodeFault.{NodeFault}
use Rattle.sig_terms.specs.declared.answer.Answer.{Answer}
use Rattle.sig_terms.specs.declared.answer.Answer.TheVariants.{Handed}
use Rattle.sig_terms.specs.declared.call.Call.TheVariants.{Hand}
use Rattle.sig_terms.specs.declared.rules.Rules.{Rules}
use Rattle.sig_terms.specs.declared.token.Token.{Token}
use Rattle.sig_txnode.specs.Told.{TakerTold}
use Rattle.sig_txnode.specs.declared.turn.Turn.{Turn}
use Rattle.sig_round.specs.Delivered.{Delivers}
use Rattle.sig_links.specs.Views.{SideView}
use Rattle.sig_round.specs.Turns.{Adds, Asker, IsTurnOf}

-- the tokens that an answer hands to a round
abbrev pub tokens_in : Result Answer NodeFault → List Token
tokens_in (Ok (Handed tokens)) = tokens
tokens_in _ = []

-- a round over one stream made these turns, did so to the side, and ended so: first a Hand turn over the stream, and then
-- the Settle turns of what it handed; with no turn at all memory ran out before, and the side is as it was
abbrev pub IsRound : Rules → Asker → List ℕ → SideView → SideView → List Turn → Result ⊤ PushFault → Type 0
IsRound rules by stream before after [] end = (end ≡ Err Memory) × (after ≡ before)
IsRound rules by stream before after (hand ∷ settles) end =
    IsTurnOf by (Hand (stream ∷ [])) hand × Delivers rules by (tokens_in hand.result) before after settles end

-- and these turns stand in the log and are told by the taker
pub record Rounded (rules : Rules) (by : Asker) (stream : List ℕ) (before after : SideView)
    (turns turns' : List Turn) (told told' : Option TakerTold) (end : Result ⊤ PushFault) : Type 0 where
  pub more : List Turn
  pub adds : Adds more turns turns' told told'
  pub round : IsRound rules by stream before after more end

-- memory ran out in the round of one stream, which ended so
abbrev pub is_starved : Result ⊤ PushFault → Bool
is_starved (Err Memory) = true
is_starved end = false

-- what follows the round of a stream: those of the others, unless memory ran out in it
abbrev pub NextUnless : Bool → Type 0 → Type 0 → Type 0
NextUnless false others ended = others
NextUnless true others ended = ended

-- rounds over these streams, one after another, made these turns, did so to the side, and ended so: memory ran out, or didn't.
-- Each stream has a round of its own, or is passed over, as a stream may be of which this holds: a push without an answer ends
-- the round of its stream, and the next stream's follows
abbrev pub AreRounds : (List ℕ → Type 0) → Rules → Asker → List (List ℕ) → SideView → SideView → List Turn → Bool → Type 0
AreRounds passes rules by [] before after turns starved = (turns ≡ []) × (after ≡ before) × (starved ≡ false)
AreRounds passes rules by (stream ∷ streams) before after turns starved =
    (passes stream × AreRounds passes rules by streams before after turns starved)
    ⊎ ((between : SideView) × (one : Result ⊤ PushFault) × (these : List Turn) × (those : List Turn) × (turns ≡ these ++ those)
    × IsRound rules by stream before between these one
    × NextUnless (is_starved one) (AreRounds passes rules by streams between after those starved) ((those ≡ []) × (after ≡ between) × (starved ≡ true)))

-- and these turns stand in the log and are told by the taker
pub record AllRounded (passes : List ℕ → Type 0) (rules : Rules) (by : Asker) (streams : List (List ℕ)) (before after : SideView)
    (turns turns' : List Turn) (told told' : Option TakerTold) (starved : Bool) : Type 0 where
  pub more : List Turn
  pub adds : Adds more turns turns' told told'
  pub rounds : AreRounds passes rules by streams before after more starved

-- the same of the round of one stream
pub record Attempted (rules : Rules) (by : Asker) (stream : List ℕ) (before after : SideView)
    (turns turns' : List Turn) (told told' : Option TakerTold) (starved : Bool) : Type 0 where
  pub one : Result ⊤ PushFault
  pub rounded : Rounded rules by stream before after turns turns' told told' one
  pub outcome : starved ≡ is_starved one

-- one stream was passed over, as it may be, and nothing was done; or it had its round
pub record PassedOver (passes : Type 0) (before after : SideView) (turns turns' : List Turn) (told told' : Option TakerTold) (starved : Bool) : Type 0 where
  pub may : passes
  pub side : after ≡ before
  pub log : turns' ≡ turns
  pub taker : told' ≡ told
  pub fed : starved ≡ false

abbrev pub PassedOrAttempted : (List ℕ → Type 0) → Rules → Asker → List ℕ → SideView → SideView → List Turn → List Turn → Option TakerTold → Option TakerTold → Bool → Type 0
PassedOrAttempted passes rules by stream before after turns turns' told told' starved =
    PassedOver (passes stream) before after turns turns' told told' starved ⊎ Attempted rules by stream before after turns turns' told told' starved
