-- How a tick tries streams: each that is due is asked what it offers, and what it offers is brought (RFC 8935, section 2).
use Rattle.std.specs.Prelude.{◌≡◌, ◌⊎◌, ℕ, nat_le, List, [], ◌∷◌, ◌++◌, Bool, true, false, Option, Some, None, Result, Ok, Err, IsOk, ⊤, ◌==◌, if◌then◌else◌}
use Rattle.std.specs.Option.{option_to_list}
use Rattle.sig_courier.specs.Schedule.{IsLogged, Kept, due}
use Rattle.sig_courier.specs.declared.attempt.Attempt.{Attempt}
use Rattle.sig_journal.specs.declared.node_fault.NodeFault.{NodeFault}
use Rattle.sig_journal.specs.declared.node_fault.NodeFault.TheVariants.{Memory}
use Rattle.sig_links.specs.Views.{SideView}
use Rattle.sig_round.specs.Rounds.{tokens_in}
use Rattle.sig_round.specs.Turns.{Adds, Asker, IsTurnOf}
use Rattle.sig_terms.specs.declared.answer.Answer.{Answer}
use Rattle.sig_terms.specs.declared.call.Call.TheVariants.{Hand}
use Rattle.sig_terms.specs.declared.rules.Rules.{Rules}
use Rattle.sig_terms.specs.declared.token.Token.{Token}
use Rattle.sig_txnode.specs.Answering.{time_used}
use Rattle.sig_txnode.specs.Told.{TakerTold}
use Rattle.sig_txnode.specs.declared.turn.Turn.{Turn}
use Rattle.sig_tick.specs.Bringing.{Brings, attempt_of}
use Rattle.sig_tick.specs.Listing.{After}
use Rattle.sig_tick.specs.declared.attempting.Trial.{Trial}

-- it ended well, or memory ran out
abbrev pub IsOver : Result ⊤ NodeFault → Type 0
IsOver end = IsOk end ⊎ (end ≡ Err Memory)

-- no turn was made, nothing was dialled, and there is no attempt
pub record IsIdle (before after : SideView) (turns : List Turn) (attempt : Option Attempt) : Type 0 where
  pub turns_none : turns ≡ []
  pub side : after ≡ before
  pub none : attempt ≡ None

-- with these tokens that a stream offered: with none there is no attempt; else there is one, which brings them, unless memory
-- ran out before its first push
abbrev pub TriesTokens : Rules → Asker → List ℕ → List Token → SideView → SideView → List Turn → Option Attempt → Result ⊤ NodeFault → Type 0
TriesTokens rules by stream [] before after turns attempt end = IsIdle before after turns attempt × IsOver end
TriesTokens rules by stream (t ∷ tokens) before after turns None end = IsIdle before after turns None × (end ≡ Err Memory)
TriesTokens rules by stream (t ∷ tokens) before after turns (Some attempt) end =
    (attempt ≡ attempt_of stream by (t ∷ tokens) turns) × Brings rules by (t ∷ tokens) before after turns end

-- after its Hand turn, which was answered so
abbrev pub TriesHanded : Rules → Asker → List ℕ → Result Answer NodeFault → SideView → SideView → List Turn → Option Attempt → Result ⊤ NodeFault → Type 0
TriesHanded rules by stream (Ok answer) before after turns attempt end = TriesTokens rules by stream (tokens_in (Ok answer)) before after turns attempt end
TriesHanded rules by stream (Err fault) before after turns attempt end = IsIdle before after turns attempt × (end ≡ Err fault)

-- a stream that is due has one Hand turn, with its name alone, and what follows that; with no turn memory ran out
abbrev pub TriesDue : Rules → Asker → List ℕ → SideView → SideView → List Turn → Option Attempt → Result ⊤ NodeFault → Type 0
TriesDue rules by stream before after [] attempt end = IsIdle before after [] attempt × (end ≡ Err Memory)
TriesDue rules by stream before after (hand ∷ turns) attempt end =
    IsTurnOf by (Hand (stream ∷ [])) hand × TriesHanded rules by stream hand.result before after turns attempt end

-- and these turns stand in the log and are told by the taker
pub record Attempted (rules : Rules) (by : Asker) (stream : List ℕ) (before after : SideView)
    (turns turns' : List Turn) (told told' : Option TakerTold) (attempt : Option Attempt) (end : Result ⊤ NodeFault) : Type 0 where
  pub more : List Turn
  pub adds : Adds more turns turns' told told'
  pub tries : TriesDue rules by stream before after more attempt end

-- the same of its turns after the Hand turn, which was answered so
pub record AttemptedHanded (rules : Rules) (by : Asker) (stream : List ℕ) (handed : Result Answer NodeFault) (before after : SideView)
    (turns turns' : List Turn) (told told' : Option TakerTold) (attempt : Option Attempt) (end : Result ⊤ NodeFault) : Type 0 where
  pub more : List Turn
  pub adds : Adds more turns turns' told told'
  pub tries : TriesHanded rules by stream handed before after more attempt end

-- and of those in which these tokens of it were brought
pub record AttemptedTokens (rules : Rules) (by : Asker) (stream : List ℕ) (tokens : List Token) (before after : SideView)
    (turns turns' : List Turn) (told told' : Option TakerTold) (attempt : Option Attempt) (end : Result ⊤ NodeFault) : Type 0 where
  pub more : List Turn
  pub adds : Adds more turns turns' told told'
  pub tries : TriesTokens rules by stream tokens before after more attempt end

-- the attempt that was made at that time, which is none where no token was handed
abbrev pub made_at : ℕ → List ℕ → Trial → Option Attempt
made_at at stream trial = if trial.tokens == 0 then None else Some (record { stream = stream; at = at; tokens = trial.tokens; good = trial.good })

abbrev pub attempt_for : List ℕ → Asker → Trial → Option Attempt
attempt_for stream by trial = made_at (time_used by.now) stream trial

-- whether a stream is due by the log, at the time of a tick
abbrev pub is_due : List Attempt → Asker → List ℕ → Bool
is_due log by stream = nat_le (due log stream) (time_used by.now)

-- a stream that isn't due is passed over
abbrev pub TriesWhere : Bool → Rules → Asker → List ℕ → SideView → SideView → List Turn → Option Attempt → Result ⊤ NodeFault → Type 0
TriesWhere true rules by stream before after turns attempt end = TriesDue rules by stream before after turns attempt end
TriesWhere false rules by stream before after turns attempt end = IsIdle before after turns attempt × IsOver end

-- one stream, by the log so far
abbrev pub Tries : Rules → Asker → List Attempt → List ℕ → SideView → SideView → List Turn → Option Attempt → Result ⊤ NodeFault → Type 0
Tries rules by log stream before after turns attempt end = TriesWhere (is_due log by stream) rules by stream before after turns attempt end

-- a stream and what follows it: the others, each by the log with the attempts before it, unless it ended with a fault
pub record TriesFirst (one : Result ⊤ NodeFault → SideView → List Turn → Option Attempt → Type 0) (others : Option Attempt → SideView → List Turn → List Attempt → Type 0)
    (after : SideView) (turns : List Turn) (made : List Attempt) (end : Result ⊤ NodeFault) : Type 0 where
  pub ended : Result ⊤ NodeFault
  pub between : SideView
  pub these : List Turn
  pub those : List Turn
  pub parts : turns ≡ these ++ those
  pub attempt : Option Attempt
  pub later : List Attempt
  pub attempts : made ≡ option_to_list attempt ++ later
  pub first : one ended between these attempt
  pub rest : After ended (others attempt between those later) ((those ≡ []) × (later ≡ []) × (after ≡ between) × (end ≡ ended))

-- these streams, one after another, by the log before the first: these turns were made, these attempts, and it ended so
abbrev pub AreTried : Rules → Asker → List Attempt → List (List ℕ) → SideView → SideView → List Turn → List Attempt → Result ⊤ NodeFault → Type 0
AreTried rules by log [] before after turns made end = (turns ≡ []) × (after ≡ before) × (made ≡ []) × IsOver end
AreTried rules by log (stream ∷ streams) before after turns made end =
    TriesFirst (λ ended between these attempt. Tries rules by log stream before between these attempt ended)
    (λ attempt between those later. AreTried rules by (log ++ option_to_list attempt) streams between after those later end) after turns made end

-- and these turns stand in the log of turns and are told by the taker, and the attempts are noted, by any log that the schedule
-- stands for
pub record Tried (rules : Rules) (by : Asker) (streams : List (List ℕ)) (kept kept' : Kept) (before after : SideView)
    (turns turns' : List Turn) (told told' : Option TakerTold) (made : List Attempt) (end : Result ⊤ NodeFault) : Type 0 where
  pub more : List Turn
  pub adds : Adds more turns turns' told told'
  pub notes : (log : List Attempt) → IsLogged kept log → IsLogged kept' (log ++ made)
  pub tries : (log : List Attempt) → IsLogged kept log → AreTried rules by log streams before after more made end

-- the same of one stream, for which there may be an attempt
pub record TriedOne (rules : Rules) (by : Asker) (stream : List ℕ) (kept kept' : Kept) (before after : SideView)
    (turns turns' : List Turn) (told told' : Option TakerTold) (attempt : Option Attempt) (end : Result ⊤ NodeFault) : Type 0 where
  pub more : List Turn
  pub adds : Adds more turns turns' told told'
  pub notes : (log : List Attempt) → IsLogged kept log → IsLogged kept' (log ++ option_to_list attempt)
  pub tries : (log : List Attempt) → IsLogged kept log → Tries rules by log stream before after more attempt end

-- the same of one that is due, by its turns from the Hand turn on
pub record TriedDue (rules : Rules) (by : Asker) (stream : List ℕ) (kept kept' : Kept) (before after : SideView)
    (turns turns' : List Turn) (told told' : Option TakerTold) (attempt : Option Attempt) (end : Result ⊤ NodeFault) : Type 0 where
  pub attempted : Attempted rules by stream before after turns turns' told told' attempt end
  pub notes : (log : List Attempt) → IsLogged kept log → IsLogged kept' (log ++ option_to_list attempt)
